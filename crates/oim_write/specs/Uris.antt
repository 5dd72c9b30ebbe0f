-- The namespace URIs of the facts' names. Each URI gets one prefix (OIM Common 1.0: prefixes have no meaning).
use Rattle.std.specs.Prelude.{ℕ, List, [], ◌∷◌, ◌++◌, map, flat_map, Option, Some, None}
use Rattle.oim_names.specs.QName.{QName}
use Rattle.oim_value.specs.declared.value.Value.{Value}
use Rattle.oim_value.specs.declared.value.Value.TheVariants.{Nil, Number, Text as AText, Name as AName}
use Rattle.oim_dims.specs.DimensionSet.{DimensionSet}
use Rattle.oim_dims.specs.Unit.{Measures}
use Rattle.oim_dims.specs.declared.fact.Fact.{Fact}
use Rattle.oim_dims.specs.declared.member.Member.{Member}
use Rattle.oim_dims.specs.declared.member.Member.TheVariants.{Nil as NoMember, Text as MemberText, Name as MemberName}
use Rattle.fact_base.specs.Body.{text_cmp}
use Rattle.fact_base.specs.Sets.{set_of}

abbrev pub entity_names : Option QName → List QName
entity_names None = []
entity_names (Some n) = n ∷ []

abbrev pub unit_names : Option Measures → List QName
unit_names None = []
unit_names (Some m) = m.numerators ++ m.denominators

-- the name of a taxonomy-defined dimension, and its member if the member is a name
abbrev pub defined_names : QName × Member → List QName
defined_names (n, NoMember) = n ∷ []
defined_names (n, MemberText t) = n ∷ []
defined_names (n, MemberName m) = n ∷ m ∷ []

abbrev pub dimension_names : DimensionSet → List QName
dimension_names d = d.concept ∷ (entity_names d.entity ++ (unit_names d.unit ++ flat_map defined_names d.members))

abbrev pub value_names : Value → List QName
value_names Nil = []
value_names (Number units d) = []
value_names (AText t) = []
value_names (AName n) = n ∷ []

-- the names of a fact: concept, entity, measures, taxonomy-defined dimensions, explicit members, and the value if it is a name
abbrev pub fact_names : Fact → List QName
fact_names f = dimension_names f.dimensions ++ value_names f.value

abbrev pub uris_of_names : List QName → List (List ℕ)
uris_of_names names = map (λ n. n.uri) names

-- the URIs of the facts' names, distinct and in byte order
abbrev pub uris : List Fact → List (List ℕ)
uris facts = set_of text_cmp (uris_of_names (flat_map fact_names facts))
