-- The results for one report, or for each of several (own).
use Rattle.std.specs.Prelude.{◌≡◌, ◌≤◌, ◌⊎◌, ◌+◌, ◌==◌, ℕ, List, [], ◌∷◌, ◌++◌, length, drop, Bool, if◌then◌else◌, Ok, Err, IsTrue, ◌↔◌}
use Rattle.std.specs.List.{list_any}
use Rattle.oim_names.specs.declared.reason.Reason.{Reason}
use Rattle.oim_value.specs.Level.{level_entry}
use Rattle.oim_report.specs.Outcome.{at, outcome}
use Rattle.oim_report.specs.Sheet.{Sheet, sheet_outcome}
use Rattle.oim_report.specs.declared.place.Place.TheVariants.{Document as AtDocument}
use Rattle.oim_report.specs.declared.refusal.Refusal.{Refusal}
use Rattle.oim_merge.specs.Checked.{IsChecked}
use Rattle.oim_merge.specs.declared.checked.Checked.{Checked}
use Rattle.xbrlmerge_c.specs.Refusals.{refused_report}
use Rattle.xbrlmerge_c.specs.Statuses.{done, refused_some}
use Rattle.xbrlmerge_c.specs.declared.check.CheckedReport.{CheckedReport}
use Rattle.xbrlmerge_c.specs.declared.check.ReportResult.{ReportResult}
use Rattle.xbrlmerge_c.specs.declared.output.RefusedReport.{RefusedReport}

-- the sheet is accepted, and the property holds of it
pub record UnderSheet (sheet : List ℕ) (Holds : Sheet → Type 0) : Type 0 where
  pub listed : Sheet
  pub read : sheet_outcome sheet ≡ Ok listed
  pub holds : Holds listed

-- the result for an accepted report, as numbers
abbrev pub AreNumbersOf : Checked → CheckedReport → Type 0
AreNumbersOf checked r = (r.facts ≡ checked.facts) × ((r.level ≡ (level_entry checked.level).index) × ((r.canonical ≡ 1 ↔ IsTrue checked.canonical) × (r.canonical ≤ 1)))

-- the report is accepted under the sheet, with this result
pub record Accepts (listed : Sheet) (report : List ℕ) (r : CheckedReport) : Type 0 where
  pub checked : Checked
  pub is_checked : IsChecked listed report checked
  pub numbers_are : AreNumbersOf checked r

-- the report with this number is refused, with this record
pub record Refuses (listed : Sheet) (number : ℕ) (report : List ℕ) (r : RefusedReport) : Type 0 where
  pub refusal : Refusal
  pub refused : outcome listed report ≡ Err refusal
  pub numbers_are : r ≡ refused_report number refusal

-- the sheet is refused; the record of the refusal has the report number 0
pub record RefusesSheet (sheet : List ℕ) (r : RefusedReport) : Type 0 where
  pub reason : Reason
  pub refused : sheet_outcome sheet ≡ Err reason
  pub numbers_are : r ≡ refused_report 0 (at AtDocument reason)

-- ---- several reports

abbrev pub no_facts : CheckedReport
no_facts = record { facts = 0; level = 0; canonical = 0 }

abbrev pub no_refusal : RefusedReport
no_refusal = record { report = 0; fact = 0; number = 0 }

-- the result for the report with this number: the status shows which of the two records is set, and the other is all zeros
abbrev pub IsResult : Sheet → ℕ → List ℕ → ReportResult → Type 0
IsResult listed number report r =
    ((r.status ≡ done) × (Accepts listed report r.checked × (r.refusal ≡ no_refusal)))
    ⊎ ((r.status ≡ refused_some) × (Refuses listed number report r.refusal × (r.checked ≡ no_facts)))

-- a result for each report, in the same order; the reports are numbered from n
abbrev pub AreResults : Sheet → ℕ → List (List ℕ) → List ReportResult → Type 0
AreResults listed n [] [] = Unit {0}
AreResults listed n (report ∷ reports) (r ∷ results) = IsResult listed n report r × AreResults listed (n + 1) reports results
AreResults listed n [] (r ∷ results) = ⊥
AreResults listed n (report ∷ reports) [] = ⊥

abbrev pub is_refused : ReportResult → Bool
is_refused r = r.status == refused_some

abbrev pub status_of : List ReportResult → ℕ
status_of results = if list_any is_refused results then refused_some else done

-- the results of all reports are at the start of the buffer, and the rest of it is unchanged
pub record HandsResults (sheet : List ℕ) (reports : List (List ℕ)) (status : ℕ) (old new : List ReportResult) : Type 0 where
  pub results : List ReportResult
  pub are : UnderSheet sheet (λ listed. AreResults listed 1 reports results)
  pub put : new ≡ results ++ drop (length results) old
  pub status_is : status ≡ status_of results
