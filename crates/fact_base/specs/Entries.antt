-- How a base represents its facts (own).
use Rattle.std.specs.Prelude.{map, List}
use Rattle.std.specs.List.{flat_map}
use Rattle.merge_laws.specs.Ends.{Summarised}
use Rattle.oim_value.specs.declared.value.Value.{Value}
use Rattle.oim_dims.specs.DimensionSet.{DimensionSet}
use Rattle.oim_dims.specs.declared.fact.Fact.{Fact}

-- the values of a dimension set with their summary
abbrev pub Summed : Type 0
Summed = List Value × Summarised

abbrev pub Entry : Type 0
Entry = DimensionSet × Summed

-- one fact with these dimensions for each value; the next definitions list the facts of one entry and of several
abbrev pub facts_with : DimensionSet → List Value → List Fact
facts_with s vs = map (λ v. record { dimensions = s; value = v }) vs

abbrev pub facts_of_entry : Entry → List Fact
facts_of_entry e = facts_with e.0 e.1.0

abbrev pub facts_of_entries : List Entry → List Fact
facts_of_entries es = flat_map facts_of_entry es
