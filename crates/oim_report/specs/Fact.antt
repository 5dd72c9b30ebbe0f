-- Which fact an object denotes, member by member (OIM 1.0; xBRL-JSON 1.0, section 3.1; own where marked).
use Rattle.std.specs.Prelude.{◌≡◌, ℕ, ℤ, List, Contains, All, Any, Option, Some, None, Ok, IsTrue}
use Rattle.std.specs.Str.{str_to_ascii_lowercase}
use Rattle.std.specs.FinMap as map
use Rattle.oim_names.specs.QName.{QName}
use Rattle.oim_names.specs.Bindings.{Binding}
use Rattle.oim_names.specs.Expansion.{Expands, ExpandsEntity}
use Rattle.oim_value.specs.Decimals.{is_finite_decimals}
use Rattle.oim_value.specs.Number.{Denotes, is_short}
use Rattle.oim_value.specs.declared.value.Value.{Value}
use Rattle.oim_value.specs.declared.value.Value.TheVariants.{Nil, Number, Text as AText, Name as AName}
use Rattle.oim_dims.specs.DimensionSet.{DimensionSet, IsDimensionSet}
use Rattle.oim_dims.specs.Language.{is_language}
use Rattle.oim_dims.specs.Period.{period_of}
use Rattle.oim_dims.specs.Unit.{Measures, UnitOf}
use Rattle.oim_dims.specs.declared.fact.Fact.{Fact}
use Rattle.oim_dims.specs.declared.member.Member.{Member}
use Rattle.oim_dims.specs.declared.member.Member.TheVariants.{Nil as NoMember, Text as MemberText, Name as MemberName}
use Rattle.oim_dims.specs.declared.period.Period.{Period}
use Rattle.oim_dims.specs.declared.period.Period.TheVariants.{Forever}
use Rattle.oim_report.specs.declared.concept_kind.ConceptKind.{ConceptKind}
use Rattle.oim_report.specs.declared.concept_kind.ConceptKind.TheVariants.{Numeric, Text, Name}
use Rattle.oim_report.specs.declared.dimension_kind.DimensionKind.{DimensionKind}
use Rattle.oim_report.specs.declared.dimension_kind.DimensionKind.TheVariants.{Explicit, Typed}
use Rattle.oim_report.specs.Json.{Given, absent, nil, text, whole, other}
use Rattle.oim_report.specs.FactMembers.{DimensionMembers, FactMembers}
use Rattle.oim_report.specs.Sheet.{Sheet}

-- the value is a text for which `Says` holds
abbrev pub GivesText : Given → (List ℕ → Type 0) → Type 0
GivesText (text t) Says = Says t
GivesText absent Says = ⊥
GivesText nil Says = ⊥
GivesText (whole n) Says = ⊥
GivesText other Says = ⊥

-- the value is a text for which `Says` holds, or the value is absent and `IfAbsent` holds
abbrev pub GivesTextOr : Type 0 → Given → (List ℕ → Type 0) → Type 0
GivesTextOr IfAbsent absent Says = IfAbsent
GivesTextOr IfAbsent (text t) Says = Says t
GivesTextOr IfAbsent nil Says = ⊥
GivesTextOr IfAbsent (whole n) Says = ⊥
GivesTextOr IfAbsent other Says = ⊥

-- the optional core dimensions; if absent, the period is `Forever`, and each other dimension is None
abbrev pub SaysEntity : List Binding → Given → Option QName → Type 0
SaysEntity bs g said = GivesTextOr (said ≡ None) g (λ t. (n : QName) × (said ≡ Some n) × ExpandsEntity bs t n)

abbrev pub SaysPeriod : Given → Period → Type 0
SaysPeriod g said = GivesTextOr (said ≡ Forever) g (λ t. period_of t ≡ Ok said)

abbrev pub SaysUnit : List Binding → Given → Option Measures → Type 0
SaysUnit bs g said = GivesTextOr (said ≡ None) g (λ t. UnitOf bs t said)

-- a language is in lower case (OIM 1.0); upper case is converted (own)
abbrev pub SaysLanguage : Given → Option (List ℕ) → Type 0
SaysLanguage g said = GivesTextOr (said ≡ None) g (λ t. IsTrue (is_language t) × (said ≡ Some (str_to_ascii_lowercase t)))

-- the member of an explicit dimension is a name; the member of a typed dimension is the text as it is spelled, or nil
abbrev pub SaysMember : List Binding → DimensionKind → Given → Member → Type 0
SaysMember bs Explicit g (MemberName n) = GivesText g (λ t. Expands bs t n)
SaysMember bs Explicit g (MemberText t) = ⊥
SaysMember bs Explicit g NoMember = ⊥
SaysMember bs Typed g (MemberName n) = ⊥
SaysMember bs Typed g (MemberText t) = g ≡ text t
SaysMember bs Typed g NoMember = g ≡ nil

-- a key denotes a dimension that the sheet lists, and its value denotes the member
pub record SaysDimension (sheet : Sheet) (bs : List Binding) (d : List ℕ × Given) (said : QName × Member) : Type 0 where
  pub name : Expands bs d.0 said.0
  pub kind : DimensionKind
  pub listed : map.get sheet.dimensions said.0 ≡ Some kind
  pub member : SaysMember bs kind d.1 said.1

-- each key denotes one of the members, and for each member there is a key that denotes it
pub record SaysMembers (sheet : Sheet) (bs : List Binding) (defined : List (List ℕ × Given)) (said : List (QName × Member)) : Type 0 where
  pub each : All (λ d. (e : QName × Member) × Contains said e × SaysDimension sheet bs d e) defined
  pub others : All (λ e. Any (λ d. SaysDimension sheet bs d e) defined) said

-- ---- the value

-- the decimals of a number; a number without decimals is exact (the range is own)
abbrev pub SaysDecimals : Given → Option ℤ → Type 0
SaysDecimals absent places = places ≡ None
SaysDecimals (whole n) places = IsTrue (is_finite_decimals n) × (places ≡ Some n)
SaysDecimals nil places = ⊥
SaysDecimals (text t) places = ⊥
SaysDecimals other places = ⊥

-- a text denotes this number, in units of 10^-19 (the limit on digits is own)
pub record SaysNumber (t : List ℕ) (units : ℤ) : Type 0 where
  pub denoted : Denotes t units
  pub short : IsTrue (is_short t)

-- a value is nil, or it is a number, a text or a name, as the kind of the concept requires
abbrev pub SaysValue : List Binding → ConceptKind → Given → Given → Value → Type 0
SaysValue bs kind g decimals Nil = g ≡ nil
SaysValue bs Numeric g decimals (Number units places) = GivesText g (λ t. SaysNumber t units) × SaysDecimals decimals places
SaysValue bs Text g decimals (AText t) = g ≡ text t
SaysValue bs Name g decimals (AName n) = GivesText g (λ t. Expands bs t n)
SaysValue bs kind g decimals said = ⊥

-- ---- the fact

-- the members of `dimensions` denote this dimension set; the sheet lists the set's taxonomy-defined dimensions
pub record SaysDimensions (sheet : Sheet) (bs : List Binding) (ds : DimensionMembers) (said : DimensionSet) : Type 0 where
  pub concept : GivesText ds.concept (λ t. Expands bs t said.concept)
  pub entity : SaysEntity bs ds.entity said.entity
  pub period : SaysPeriod ds.period said.period
  pub unit : SaysUnit bs ds.unit said.unit
  pub language : SaysLanguage ds.language said.language
  pub members : SaysMembers sheet bs ds.defined said.members
  pub set : IsDimensionSet said

-- a fact object with these parts denotes the fact under this sheet and these bindings
pub record SaysFact (sheet : Sheet) (bs : List Binding) (p : FactMembers) (said : Fact) : Type 0 where
  pub parts : DimensionMembers
  pub there : p.dimensions ≡ Some parts
  pub dimensions : SaysDimensions sheet bs parts said.dimensions
  pub kind : ConceptKind
  pub listed : map.get sheet.concepts said.dimensions.concept ≡ Some kind
  pub value : SaysValue bs kind p.value p.decimals said.value
