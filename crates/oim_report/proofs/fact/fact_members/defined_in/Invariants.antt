use Rattle.oim_report.proofs.Shared.{◌≡◌, ◌++◌, members_view, defined_in, seen_defined}
use Rattle.oim_report.proofs.fact.fact_members.defined_in.Given as goal

abbrev pub invariant-loop-key : goal.invariant-loop-key
invariant-loop-key l = seen_defined l.defined.items ++ defined_in (members_view l.key-iterator) ≡ defined_in (members_view l.members.entries)
