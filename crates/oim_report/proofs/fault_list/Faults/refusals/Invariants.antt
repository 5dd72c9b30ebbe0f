use Rattle.oim_report.proofs.Shared.{◌≡◌, ◌++◌, drop, map, listed, refusals_of, shown_fault}
use Rattle.oim_report.proofs.fault_list.Faults.refusals.Given as goal

abbrev pub invariant-loop-fault : goal.invariant-loop-fault
invariant-loop-fault l = l.refusals.items ++ refusals_of (map shown_fault (drop l.fault-index l.fault-items)) ≡ refusals_of (listed l.self)
