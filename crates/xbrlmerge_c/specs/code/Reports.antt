-- The reports that C passes, as a list (own).
use Rattle.std.specs.Prelude.{ℕ, List}
use Rattle.xbrlmerge_c.specs.Ends.{AreEnds, reports_at}
use Rattle.xbrlmerge_c.specs.declared.reports.Reports.{Reports}

abbrev pub HasValidEnds : Reports → Type 0
HasValidEnds reports = AreEnds reports.bytes.now reports.ends.now

abbrev pub texts_of : Reports → List (List ℕ)
texts_of reports = reports_at reports.bytes.now reports.ends.now
