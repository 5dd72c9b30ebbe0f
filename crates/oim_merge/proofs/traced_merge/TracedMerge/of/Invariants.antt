use Rattle.oim_merge.proofs.Shared.{◌≡◌, take, traced}
use Rattle.oim_merge.proofs.traced_merge.TracedMerge.of.Given as goal

abbrev pub invariant-loop-report : goal.invariant-loop-report
invariant-loop-report l = record {
  is : l.merge ≡ traced l.sheet (take l.report-index l.reports);
  count : l.merge.added.reports ≡ l.report-index;
}
