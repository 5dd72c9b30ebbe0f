-- A fact object, member by member in the order of writing (own). If names have the prefixes of a text, the order of writing is
-- the byte order of the keys.
use Rattle.std.specs.Prelude.{◌≡◌, ℕ, List, [], ◌∷◌, codes, Option, Some, None, Contains}
use Rattle.serde_json.specs.Data.{Data, number, string, object, Members, no_members, member}
use Rattle.serde_json.specs.Find.{of_integer}
use Rattle.oim_names.specs.QName.{QName}
use Rattle.oim_value.specs.declared.value.Value.{Value}
use Rattle.oim_value.specs.declared.value.Value.TheVariants.{Nil, Number, Text as AText, Name as AName}
use Rattle.oim_dims.specs.DimensionSet.{DimensionSet, IsDimensionSet}
use Rattle.oim_dims.specs.Period.{period_text}
use Rattle.oim_dims.specs.declared.fact.Fact.{Fact}
use Rattle.oim_dims.specs.declared.member.Member.{Member}
use Rattle.fact_base.specs.Passed.{fact_object, member_data, option_spelled, option_unit_text, value_data}
use Rattle.oim_write.specs.Tree.{name_text}
use Rattle.oim_write.specs.Uris.{uris}

-- a member with a text, if the text is present, before other members
abbrev pub text_member : List ℕ → Option (List ℕ) → Members → Members
text_member key None ms = ms
text_member key (Some t) ms = member key (string t) ms

-- the member `decimals`, if the value is a number with finite decimals, before other members
abbrev pub decimals_member : Value → Members → Members
decimals_member (Number units (Some d)) ms = member (codes "decimals") (number (of_integer d)) ms
decimals_member (Number units None) ms = ms
decimals_member Nil ms = ms
decimals_member (AText t) ms = ms
decimals_member (AName n) ms = ms

module _ (spelled : QName → List ℕ) where
  -- one member for each taxonomy-defined dimension, in the order of the list, before other members
  abbrev pub defined_members : List (QName × Member) → Members → Members
  defined_members [] ms = ms
  defined_members (e ∷ es) ms = member (spelled e.0) (member_data spelled e.1) (defined_members es ms)

  -- all dimensions except the concept: the taxonomy-defined ones are between `language` and `period`
  abbrev pub other_dimensions : DimensionSet → Members
  other_dimensions d =
      text_member (codes "entity") (option_spelled spelled d.entity)
      (text_member (codes "language") d.language
      (defined_members d.members
      (text_member (codes "period") (period_text d.period)
      (text_member (codes "unit") (option_unit_text spelled d.unit) no_members))))

  abbrev pub ordered_dimensions : DimensionSet → Members
  ordered_dimensions d = member (codes "concept") (string (spelled d.concept)) (other_dimensions d)

  abbrev pub ordered_fact : Fact → Data
  ordered_fact f =
      object (decimals_member f.value
      (member (codes "dimensions") (object (ordered_dimensions f.dimensions))
      (member (codes "value") (value_data spelled f.value) no_members)))

-- if names have a text's prefixes, the object of a fact with a valid dimension set has its members in the order of `ordered_fact`
abbrev pub FactsAreWrittenInOrder : Type 0
FactsAreWrittenInOrder = (facts : List Fact) (f : Fact) → Contains facts f → IsDimensionSet f.dimensions → fact_object (name_text (uris facts)) f ≡ ordered_fact (name_text (uris facts)) f
