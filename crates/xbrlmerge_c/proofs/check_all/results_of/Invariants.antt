use Rattle.std.proofs.Common.{◌≡◌, ◌+◌, List, ◌++◌, drop, length}
use Rattle.xbrlmerge_c.specs.Checks.{AreResults}
use Rattle.xbrlmerge_c.specs.Ends.{AreEndsFrom, reports_from}
use Rattle.xbrlmerge_c.specs.code.Reports.{texts_of}
use Rattle.xbrlmerge_c.specs.declared.check.ReportResult.{ReportResult}
use Rattle.xbrlmerge_c.proofs.check_all.results_of.Given as goal

-- the results so far and those of the remaining reports are the results of all reports
abbrev pub invariant-loop-index : goal.invariant-loop-index
invariant-loop-index l = record {
  all : (rest : List ReportResult) → AreResults l.sheet (l.index + 1) (reports_from l.from l.reports.bytes.now (drop l.index l.reports.ends.now)) rest → AreResults l.sheet 1 (texts_of l.reports) (l.found.items ++ rest);
  count : length l.found.items ≡ l.index;
  ends : AreEndsFrom l.from (length l.reports.bytes.now) (drop l.index l.reports.ends.now);
}
