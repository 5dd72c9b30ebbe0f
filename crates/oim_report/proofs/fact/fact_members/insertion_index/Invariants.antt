use Rattle.oim_report.proofs.Shared.{◌≡◌, seen_defined}
use Rattle.oim_report.proofs.MembersPut.{Above}
use Rattle.oim_report.proofs.fact.fact_members.insertion_index.Given as goal

abbrev pub invariant-loop-other : goal.invariant-loop-other
invariant-loop-other l = (l.at ≡ l.other-index) × Above l.key l.other-index (seen_defined l.defined)
