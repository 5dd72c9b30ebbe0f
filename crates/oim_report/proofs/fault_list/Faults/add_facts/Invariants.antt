use Rattle.oim_report.proofs.Shared.{◌≡◌, ◌+◌, ◌≤◌, ◌++◌, length, view, members_view, listed, facts_of, values, facts_faults}
use Rattle.oim_report.proofs.fault_list.Faults.add_facts.Given as goal

abbrev pub invariant-loop-identifier : goal.invariant-loop-identifier
invariant-loop-identifier l =
    (listed l.self ++ facts_faults l.sheet l.aliases l.number (values (members_view l._identifier-iterator)) ≡ listed l.fn.self ++ facts_faults l.sheet l.aliases 1 (values (facts_of (view l.fn.tree))))
    × (l.number + length l._identifier-iterator ≤ length l.initial._identifier-iterator + 1)
