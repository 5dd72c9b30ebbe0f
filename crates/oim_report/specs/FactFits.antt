-- The properties of facts that were read under a sheet (own).
use Rattle.std.specs.Prelude.{◌≡◌, ◌≢◌, ⊤, ℕ, List, [], All, IsTrue, IsUtf8, Option, Some, None}
use Rattle.std.specs.FinMap as map
use Rattle.std.specs.Str.{str_to_ascii_lowercase}
use Rattle.oim_names.specs.QName.{QName, is_part}
use Rattle.oim_names.specs.Expansion.{reserved_uri}
use Rattle.oim_value.specs.Decimals.{AreDecimals}
use Rattle.oim_value.specs.Number.{IsShort}
use Rattle.oim_value.specs.declared.value.Value.{Value}
use Rattle.oim_value.specs.declared.value.Value.TheVariants.{Nil, Number, Text as AText, Name as AName}
use Rattle.oim_dims.specs.Period.{EndsAfterStart}
use Rattle.oim_dims.specs.DimensionSet.{IsDimensionSet}
use Rattle.oim_dims.specs.Language.{is_language}
use Rattle.oim_dims.specs.Unit.{Measures}
use Rattle.oim_dims.specs.declared.fact.Fact.{Fact}
use Rattle.oim_dims.specs.declared.member.Member.{Member}
use Rattle.oim_dims.specs.declared.member.Member.TheVariants.{Nil as NoMember, Text as MemberText, Name as MemberName}
use Rattle.oim_report.specs.declared.concept_kind.ConceptKind.{ConceptKind}
use Rattle.oim_report.specs.declared.concept_kind.ConceptKind.TheVariants.{Numeric, Text, Name}
use Rattle.oim_report.specs.declared.dimension_kind.DimensionKind.{DimensionKind}
use Rattle.oim_report.specs.declared.dimension_kind.DimensionKind.TheVariants.{Explicit, Typed}
use Rattle.oim_report.specs.Sheet.{Sheet}

-- ---- names

-- a URI that a fact's names may have
pub record IsNamespace (uri : List ℕ) : Type 0 where
  pub filled : uri ≢ []
  pub allowed : uri ≢ reserved_uri
  pub utf8 : IsUtf8 uri

-- a name that a text can spell
pub record FitsName (n : QName) : Type 0 where
  pub namespace : IsNamespace n.uri
  pub form : IsTrue (is_part n.local_part)
  pub utf8 : IsUtf8 n.local_part

-- an entity that a text can spell
pub record FitsEntity (n : QName) : Type 0 where
  pub scheme : IsNamespace n.uri
  pub some : n.local_part ≢ []
  pub utf8 : IsUtf8 n.local_part

-- ---- optional parts

abbrev pub EntityFits : Option QName → Type 0
EntityFits None = ⊤
EntityFits (Some n) = FitsEntity n

-- each measure is a name that a text can spell, and the concept is numeric
pub record MeasuresFit (kind : ConceptKind) (m : Measures) : Type 0 where
  pub numerators : All FitsName m.numerators
  pub denominators : All FitsName m.denominators
  pub numeric : kind ≡ Numeric

abbrev pub UnitFits : ConceptKind → Option Measures → Type 0
UnitFits kind None = ⊤
UnitFits kind (Some m) = MeasuresFit kind m

-- the text `l` has the form of a language and is in lower case, and the concept is not numeric
pub record IsLanguageOf (kind : ConceptKind) (l : List ℕ) : Type 0 where
  pub form : IsTrue (is_language l)
  pub lower : str_to_ascii_lowercase l ≡ l
  pub other : kind ≢ Numeric

abbrev pub LanguageFits : ConceptKind → Option (List ℕ) → Type 0
LanguageFits kind None = ⊤
LanguageFits kind (Some l) = IsLanguageOf kind l

-- ---- members

-- the member of an explicit dimension is a name that a text can spell; the member of a typed dimension is a UTF-8 text or nil
abbrev pub MemberFits : DimensionKind → Member → Type 0
MemberFits Explicit (MemberName n) = FitsName n
MemberFits Explicit (MemberText t) = ⊥
MemberFits Explicit NoMember = ⊥
MemberFits Typed (MemberName n) = ⊥
MemberFits Typed (MemberText t) = IsUtf8 t
MemberFits Typed NoMember = ⊤

pub record DimensionFits (sheet : Sheet) (e : QName × Member) : Type 0 where
  pub name : FitsName e.0
  pub kind : DimensionKind
  pub listed : map.get sheet.dimensions e.0 ≡ Some kind
  pub member : MemberFits kind e.1

-- ---- values

-- a value is nil or has the kind of its concept: a short number whose decimals are infinite or in range, a UTF-8 text, or a name
-- that a text can spell
abbrev pub ValueFits : ConceptKind → Value → Type 0
ValueFits kind Nil = ⊤
ValueFits Numeric (Number units places) = IsShort units × AreDecimals places
ValueFits Text (AText t) = IsUtf8 t
ValueFits Name (AName n) = FitsName n
ValueFits kind other = ⊥

-- ---- facts

pub record FactFits (sheet : Sheet) (f : Fact) : Type 0 where
  pub set : IsDimensionSet f.dimensions
  pub concept : FitsName f.dimensions.concept
  pub kind : ConceptKind
  pub listed : map.get sheet.concepts f.dimensions.concept ≡ Some kind
  pub entity : EntityFits f.dimensions.entity
  pub period : EndsAfterStart f.dimensions.period
  pub unit : UnitFits kind f.dimensions.unit
  pub language : LanguageFits kind f.dimensions.language
  pub members : All (DimensionFits sheet) f.dimensions.members
  pub value : ValueFits kind f.value
