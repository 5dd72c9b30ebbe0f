-- What `check` prints, from the bytes of the reports (own).
use Rattle.std.specs.Prelude.{◌≡◌, ℕ, suc, List, [], ◌∷◌, ◌++◌, codes, Option, Some, None, Result, Ok, Err, MatchResult, if◌then◌else◌}
use Rattle.std.specs.Fmt.{decimal}
use Rattle.std.specs.List.{AllZip}
use Rattle.clap.specs.Words.{Text}
use Rattle.oim_value.specs.Level.{level_entry}
use Rattle.oim_report.specs.Outcome.{outcome}
use Rattle.oim_report.specs.Sheet.{Sheet}
use Rattle.oim_report.specs.declared.refusal.Refusal.{Refusal}
use Rattle.oim_merge.specs.Checked.{IsChecked}
use Rattle.oim_merge.specs.Reports.{refusal_in, refused}
use Rattle.oim_merge.specs.declared.checked.Checked.{Checked}
use Rattle.row_formats.specs.CheckedRows.{checked_header, checked_text}
use Rattle.command_line.specs.Outputs.{NumberedRefusals}
use Rattle.command_line.specs.declared.print_format.PrintFormat.{PrintFormat}
use Rattle.command_line.specs.declared.print_format.PrintFormat.TheVariants.{Lines, Rows}

-- the line of an accepted report
abbrev pub accepted_line : Checked → List ℕ
accepted_line checked =
    codes "accepted " ++ (decimal checked.facts ++ 32 ∷ ((level_entry checked.level).text ++ 32 ∷ ((if checked.canonical then codes "canonical" else codes "other") ++ 10 ∷ [])))

-- how to write the result of the accepted report with this number; the line of a report alone, without a format, has no number
abbrev pub result_written : Option PrintFormat → List Text → ℕ → Checked → List ℕ
result_written None names n checked = accepted_line checked
result_written (Some Lines) names n checked = codes "report " ++ (decimal n ++ (codes ": " ++ accepted_line checked))
result_written (Some (Rows format)) names n checked = checked_text format names n checked

abbrev pub results_header : Option PrintFormat → List ℕ
results_header (Some (Rows format)) = checked_header format
results_header _ = []

abbrev pub IsResult : Sheet → List ℕ → Result Checked Refusal → Type 0
IsResult sheet bytes result = MatchResult result (IsChecked sheet bytes) (λ refusal. outcome sheet bytes ≡ Err refusal)

-- the results of the accepted reports, in the order of the reports; the first has the number n
abbrev pub results_text : (ℕ → Checked → List ℕ) → ℕ → List (Result Checked Refusal) → List ℕ
results_text written n [] = []
results_text written n (Ok checked ∷ results) = written n checked ++ results_text written (suc n) results
results_text written n (Err refusal ∷ results) = results_text written (suc n) results

-- each report is accepted with a result or refused, the text has the results, and the refusals are those of a merge
pub record Checks (format : Option PrintFormat) (names : List Text) (sheet : Sheet) (reports : List (List ℕ)) (text : List ℕ) (returned : NumberedRefusals) : Type 0 where
  pub results : List (Result Checked Refusal)
  pub are : AllZip (IsResult sheet) reports results
  pub text_is : text ≡ results_header format ++ results_text (result_written format names) 1 results
  pub refusals_are : returned ≡ refused sheet reports

-- ---- one more report

abbrev pub result_text : (ℕ → Checked → List ℕ) → ℕ → Result Checked Refusal → List ℕ
result_text written n (Ok checked) = written n checked
result_text written n (Err refusal) = []

-- its result was added to the text or to the refusals
pub record AddsResult (written : ℕ → Checked → List ℕ) (sheet : Sheet) (n : ℕ) (bytes old new : List ℕ) (refusals returned : NumberedRefusals) : Type 0 where
  pub result : Result Checked Refusal
  pub is : IsResult sheet bytes result
  pub text_is : new ≡ old ++ result_text written n result
  pub refusals_are : returned ≡ refusals ++ refusal_in n (outcome sheet bytes)
