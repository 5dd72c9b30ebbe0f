use Rattle.oim_merge.proofs.Shared.{◌≡◌, take, added}
use Rattle.oim_merge.proofs.consolidation.Consolidation.of.Given as goal

abbrev pub invariant-loop-report : goal.invariant-loop-report
invariant-loop-report l = record {
  is : l.consolidation ≡ added l.sheet (take l.report-index l.reports);
  count : l.consolidation.reports ≡ l.report-index;
}
