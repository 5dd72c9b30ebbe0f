use Rattle.oim_write.proofs.Shared.{take, flat_map, value_names, Gains}
use Rattle.oim_write.proofs.uri_set.UriSet.add_values.Given as goal

abbrev pub invariant-loop-value : goal.invariant-loop-value
invariant-loop-value l = Gains l.initial.self (flat_map value_names (take l.value-index l.values)) l.self
