-- If a fact fits a sheet and its names are spelled as in `SpellsFact`, its object is read as the fact (own).
use Rattle.std.specs.Prelude.{◌≡◌, ◌≢◌, ◌||◌, ⊤, ℕ, List, [], ◌∷◌, ◌++◌, All, IsTrue, Option, Some, None, Ok, IfSome, false}
use Rattle.std.specs.List.{list_all}
use Rattle.std.specs.Char.{is_ascii_alphanumeric}
use Rattle.std.specs.Ordering.{nat_cmp, match_ordering}
use Rattle.std.specs.Cmp.Lexicographic.{slice_cmp}
use Rattle.oim_names.specs.QName.{QName}
use Rattle.oim_names.specs.Bindings.{Binding, uri_of}
use Rattle.oim_names.specs.declared.reason.Reason.TheVariants.{NameForm, UnboundPrefix, ReservedNamespace}
use Rattle.oim_value.specs.Plain.{plain}
use Rattle.oim_value.specs.declared.value.Value.{Value}
use Rattle.oim_value.specs.declared.value.Value.TheVariants.{Nil, Number, Text as AText, Name as AName}
use Rattle.oim_dims.specs.DimensionSet.{DimensionSet}
use Rattle.oim_dims.specs.Period.{period_text}
use Rattle.oim_dims.specs.Unit.{Measures}
use Rattle.oim_dims.specs.declared.fact.Fact.{Fact}
use Rattle.oim_dims.specs.declared.member.Member.{Member}
use Rattle.oim_dims.specs.declared.member.Member.TheVariants.{Nil as NoMember, Text as MemberText, Name as MemberName}
use Rattle.serde_json.specs.Data.{Data}
use Rattle.oim_report.specs.Json.{Given, absent, nil, text, whole, is_absent, is_no_text}
use Rattle.oim_report.specs.FactMembers.{DimensionMembers, FactMembers, HasForm, fact_parts}
use Rattle.oim_report.specs.Fact.{SaysFact}
use Rattle.oim_report.specs.FactFits.{FactFits}
use Rattle.oim_report.specs.FactObject.{option_spelled, option_unit_text, fact_object}
use Rattle.oim_report.specs.Holds.{holds}
use Rattle.oim_report.specs.Outcome.{IsFree, fact_outcome}
use Rattle.oim_report.specs.PlainJson.{IsPlainJson}
use Rattle.oim_report.specs.Sheet.{Sheet}

-- ---- names as a function spells them

-- a name is spelled with a prefix that is bound to the name's URI and consists of one or more ASCII letters and digits
pub record SpellsName (bs : List Binding) (spelled : QName → List ℕ) (n : QName) : Type 0 where
  pub prefix : List ℕ
  pub filled : prefix ≢ []
  pub simple : IsTrue (list_all is_ascii_alphanumeric prefix)
  pub bound : uri_of bs prefix ≡ Some n.uri
  pub text : spelled n ≡ prefix ++ 58 ∷ n.local_part

pub record SpellsMeasures (bs : List Binding) (spelled : QName → List ℕ) (m : Measures) : Type 0 where
  pub numerators : All (SpellsName bs spelled) m.numerators
  pub denominators : All (SpellsName bs spelled) m.denominators

abbrev pub SpellsMember : List Binding → (QName → List ℕ) → Member → Type 0
SpellsMember bs spelled NoMember = ⊤
SpellsMember bs spelled (MemberText t) = ⊤
SpellsMember bs spelled (MemberName n) = SpellsName bs spelled n

pub record SpellsDimension (bs : List Binding) (spelled : QName → List ℕ) (e : QName × Member) : Type 0 where
  pub name : SpellsName bs spelled e.0
  pub member : SpellsMember bs spelled e.1

abbrev pub SpellsValue : List Binding → (QName → List ℕ) → Value → Type 0
SpellsValue bs spelled Nil = ⊤
SpellsValue bs spelled (Number units places) = ⊤
SpellsValue bs spelled (AText t) = ⊤
SpellsValue bs spelled (AName n) = SpellsName bs spelled n

-- each name of a fact is spelled as in `SpellsName`
pub record SpellsFact (bs : List Binding) (spelled : QName → List ℕ) (f : Fact) : Type 0 where
  pub concept : SpellsName bs spelled f.dimensions.concept
  pub entity : IfSome f.dimensions.entity (SpellsName bs spelled)
  pub unit : IfSome f.dimensions.unit (SpellsMeasures bs spelled)
  pub members : All (SpellsDimension bs spelled) f.dimensions.members
  pub value : SpellsValue bs spelled f.value

-- ---- the object of a fact

abbrev pub option_given : Option (List ℕ) → Given
option_given None = absent
option_given (Some t) = text t

-- sets the value of a key in a list that is in byte order of the keys
abbrev pub with_given : List ℕ → Given → List (List ℕ × Given) → List (List ℕ × Given)
with_given key g [] = (key, g) ∷ []
with_given key g (d ∷ ds) = match_ordering (slice_cmp nat_cmp key d.0) ((key, g) ∷ d ∷ ds) ((d.0, g) ∷ ds) (d ∷ with_given key g ds)

module _ (spelled : QName → List ℕ) where
  abbrev pub member_given : Member → Given
  member_given NoMember = nil
  member_given (MemberText t) = text t
  member_given (MemberName n) = text (spelled n)

  -- the members of the taxonomy-defined dimensions, in byte order of their keys
  abbrev pub defined_given : List (QName × Member) → List (List ℕ × Given)
  defined_given [] = []
  defined_given (e ∷ es) = with_given (spelled e.0) (member_given e.1) (defined_given es)

  abbrev pub dimensions_given : DimensionSet → DimensionMembers
  dimensions_given d = record {
    concept = text (spelled d.concept);
    entity = option_given (option_spelled spelled d.entity);
    period = option_given (period_text d.period);
    unit = option_given (option_unit_text spelled d.unit);
    language = option_given d.language;
    note = absent;
    defined = defined_given d.members;
    unknown = false;
  }

  abbrev pub value_given : Value → Given
  value_given Nil = nil
  value_given (Number units places) = text (plain units)
  value_given (AText t) = text t
  value_given (AName n) = text (spelled n)

  abbrev pub decimals_given : Value → Given
  decimals_given (Number units (Some d)) = whole d
  decimals_given (Number units None) = absent
  decimals_given Nil = absent
  decimals_given (AText t) = absent
  decimals_given (AName n) = absent

  abbrev pub parts_given : Fact → FactMembers
  parts_given f = record {
    value = value_given f.value;
    decimals = decimals_given f.value;
    dimensions = Some (dimensions_given f.dimensions);
    linked = false;
    misshapen = false;
    unknown = false;
  }

-- if a fact fits a sheet and its names are spelled as in `SpellsFact`, its object has the parts in `parts_given`
abbrev pub FactObjectHasParts : Type 0
FactObjectHasParts = (sheet : Sheet) (bs : List Binding) (spelled : QName → List ℕ) (f : Fact) → FactFits sheet f → SpellsFact bs spelled f → fact_parts (fact_object spelled f) ≡ Some (parts_given spelled f)

-- ---- all parts are accepted

-- the parts have the form of a fact, there is a value, and each core dimension is a text or absent
pub record AreFormed (p : FactMembers) (ds : DimensionMembers) : Type 0 where
  pub form : HasForm p ds
  pub value : is_absent p.value ≡ false
  pub texts : (is_no_text ds.concept || is_no_text ds.entity || is_no_text ds.period || is_no_text ds.unit || is_no_text ds.language) ≡ false

abbrev pub FormsAreAccepted : Type 0
FormsAreAccepted = (spelled : QName → List ℕ) (f : Fact) → AreFormed (parts_given spelled f) (dimensions_given spelled f.dimensions)

-- if a fact fits a sheet and its names are spelled as in `SpellsFact`, no name in its object is refused
abbrev pub NamesAreAccepted : Type 0
NamesAreAccepted = (sheet : Sheet) (bs : List Binding) (spelled : QName → List ℕ) (f : Fact) → FactFits sheet f → SpellsFact bs spelled f → let applies = holds sheet bs (fact_object spelled f) in (applies NameForm ≡ false) × (applies UnboundPrefix ≡ false) × (applies ReservedNamespace ≡ false)

-- ---- the fact

-- if a fact fits a sheet and its names are spelled as in `SpellsFact`, its object is plain JSON that is at most two levels deep
abbrev pub FactObjectIsPlain : Type 0
FactObjectIsPlain = (sheet : Sheet) (bs : List Binding) (spelled : QName → List ℕ) (f : Fact) → FactFits sheet f → SpellsFact bs spelled f → IsPlainJson (fact_object spelled f) 2

-- no condition applies to a fact object, its parts denote the fact, and the outcome of the object is this fact
pub record IsReadAs (sheet : Sheet) (bs : List Binding) (d : Data) (f : Fact) : Type 0 where
  pub parts : FactMembers
  pub are : fact_parts d ≡ Some parts
  pub accepted : IsFree sheet bs d
  pub says : SaysFact sheet bs parts f
  pub outcome : fact_outcome sheet bs d ≡ Ok f

-- if a fact fits a sheet and its names are spelled as in `SpellsFact`, its object is read as the fact
abbrev pub FactObjectReadsBack : Type 0
FactObjectReadsBack = (sheet : Sheet) (bs : List Binding) (spelled : QName → List ℕ) (f : Fact) → FactFits sheet f → SpellsFact bs spelled f → IsReadAs sheet bs (fact_object spelled f) f
