use Rattle.oim_write.proofs.Shared.{take, flat_map, defined_names, Gains}
use Rattle.oim_write.proofs.uri_set.UriSet.add_members.Given as goal

abbrev pub invariant-loop-name : goal.invariant-loop-name
invariant-loop-name l = Gains l.initial.self (flat_map defined_names (take l.name-index l.members)) l.self
