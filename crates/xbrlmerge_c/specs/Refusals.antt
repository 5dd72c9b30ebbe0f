-- Refusals as records of numbers (own).
use Rattle.std.specs.Prelude.{ℕ, List, map}
use Rattle.oim_names.specs.Reasons.{entry_of}
use Rattle.oim_report.specs.declared.place.Place.{Place}
use Rattle.oim_report.specs.declared.place.Place.TheVariants.{Document, Fact}
use Rattle.oim_report.specs.declared.refusal.Refusal.{Refusal}
use Rattle.xbrlmerge_c.specs.declared.output.RefusedReport.{RefusedReport}

-- the number of a fact, counted from 1, or 0 for the document
abbrev pub place_number : Place → ℕ
place_number Document = 0
place_number (Fact n) = n

-- the record for a refusal of the report with this number
abbrev pub refused_report : ℕ → Refusal → RefusedReport
refused_report n r = record { report = n; fact = place_number r.place; number = (entry_of r.reason).number }

abbrev pub refused_report_of : ℕ × Refusal → RefusedReport
refused_report_of returned = refused_report returned.0 returned.1

abbrev pub refused_reports : List (ℕ × Refusal) → List RefusedReport
refused_reports returned = map refused_report_of returned
