use Rattle.std.proofs.Common.{◌≡◌, drop, length}
use Rattle.oim_merge.specs.Added.{begun, with_reports}
use Rattle.xbrlmerge_c.specs.Ends.{AreEndsFrom, reports_from}
use Rattle.xbrlmerge_c.specs.code.Reports.{texts_of}
use Rattle.xbrlmerge_c.proofs.reports.add_reports.Given as goal

-- adding the remaining reports gives the result of adding all reports
abbrev pub invariant-loop-end : goal.invariant-loop-end
invariant-loop-end l = record {
  all : with_reports l.consolidation (reports_from l.from l.reports.bytes.now (drop l.end-index l.reports.ends.now)) ≡ with_reports (begun l.sheet) (texts_of l.reports);
  count : l.consolidation.reports ≡ l.end-index;
  ends : AreEndsFrom l.from (length l.reports.bytes.now) (drop l.end-index l.reports.ends.now);
}
