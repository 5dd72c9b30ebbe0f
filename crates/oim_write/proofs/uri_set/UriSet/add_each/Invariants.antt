use Rattle.oim_write.proofs.Shared.{take, Gains}
use Rattle.oim_write.proofs.uri_set.UriSet.add_each.Given as goal

abbrev pub invariant-loop-name : goal.invariant-loop-name
invariant-loop-name l = Gains l.initial.self (take l.name-index l.names) l.self
