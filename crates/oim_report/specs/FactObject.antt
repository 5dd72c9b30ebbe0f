-- The JSON object of a written fact (xBRL-JSON 1.0, section 3.1; the choice of texts is own). The function `spelled` spells the
-- fact's names.
use Rattle.std.specs.Prelude.{ℕ, List, [], ◌∷◌, codes, Option, Some, None}
use Rattle.oim_names.specs.QName.{QName}
use Rattle.oim_value.specs.Plain.{plain}
use Rattle.oim_value.specs.declared.value.Value.{Value}
use Rattle.oim_value.specs.declared.value.Value.TheVariants.{Nil, Number, Text as AText, Name as AName}
use Rattle.oim_dims.specs.DimensionSet.{DimensionSet}
use Rattle.oim_dims.specs.Period.{period_text}
use Rattle.oim_dims.specs.Unit.{Measures, unit_text}
use Rattle.oim_dims.specs.declared.fact.Fact.{Fact}
use Rattle.oim_dims.specs.declared.member.Member.{Member}
use Rattle.oim_dims.specs.declared.member.Member.TheVariants.{Nil as NoMember, Text as MemberText, Name as MemberName}
use Rattle.serde_json.specs.Data.{Data, null, number, string, object, Members, no_members, put}
use Rattle.serde_json.specs.Find.{of_integer}

-- puts a text at a key of the members, if there is a text
abbrev pub put_text : List ℕ → Option (List ℕ) → Members → Members
put_text key None ms = ms
put_text key (Some t) ms = put key (string t) ms

module _ (spelled : QName → List ℕ) where
  abbrev pub option_spelled : Option QName → Option (List ℕ)
  option_spelled None = None
  option_spelled (Some n) = Some (spelled n)

  abbrev pub option_unit_text : Option Measures → Option (List ℕ)
  option_unit_text None = None
  option_unit_text (Some m) = Some (unit_text spelled m)

  abbrev pub member_data : Member → Data
  member_data NoMember = null
  member_data (MemberText t) = string t
  member_data (MemberName n) = string (spelled n)

  -- adds the taxonomy-defined dimensions to the members `ms`
  abbrev pub with_defined : List (QName × Member) → Members → Members
  with_defined [] ms = ms
  with_defined (e ∷ es) ms = put (spelled e.0) (member_data e.1) (with_defined es ms)

  -- the members of `dimensions`; their keys are in byte order, however the names are spelled
  abbrev pub dimension_members : DimensionSet → Members
  dimension_members d =
      with_defined d.members
      (put_text (codes "entity") (option_spelled d.entity)
      (put_text (codes "language") d.language
      (put_text (codes "period") (period_text d.period)
      (put_text (codes "unit") (option_unit_text d.unit)
      (put (codes "concept") (string (spelled d.concept)) no_members)))))

  abbrev pub value_data : Value → Data
  value_data Nil = null
  value_data (Number units places) = string (plain units)
  value_data (AText t) = string t
  value_data (AName n) = string (spelled n)

  -- decimals are written only for numbers whose decimals are finite
  abbrev pub with_decimals : Value → Members → Members
  with_decimals (Number units (Some d)) ms = put (codes "decimals") (number (of_integer d)) ms
  with_decimals (Number units None) ms = ms
  with_decimals Nil ms = ms
  with_decimals (AText t) ms = ms
  with_decimals (AName n) ms = ms

  abbrev pub fact_members : Fact → Members
  fact_members f =
      with_decimals f.value (put (codes "dimensions") (object (dimension_members f.dimensions)) (put (codes "value") (value_data f.value) no_members))

  abbrev pub fact_object : Fact → Data
  fact_object f = object (fact_members f)
