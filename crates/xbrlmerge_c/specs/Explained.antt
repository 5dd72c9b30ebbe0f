-- The results of calls that explain a report (own).
use Rattle.std.specs.Prelude.{◌≡◌, ◌≢◌, ◌≤◌, ◌<◌, ℕ, List, [], Some, Ok, codes, string_bytes}
use Rattle.oim_report.specs.Sheet.{Sheet, sheet_outcome}
use Rattle.oim_report.specs.declared.refusal.Refusal.{Refusal}
use Rattle.oim_explain.specs.Explained.{Explains, printed_faults}
use Rattle.oim_explain.specs.declared.lines.Explained.{Explained}
use Rattle.oim_explain.specs.declared.lines.Format.{Format}
use Rattle.oim_explain.specs.declared.lines.Input.{Input}
use Rattle.xbrlmerge_c.specs.CallerMemory.{Asks, CallerMemory, Hands, Rejects}
use Rattle.xbrlmerge_c.specs.Calls.{IsSheetRefused}
use Rattle.xbrlmerge_c.specs.Statuses.{done, no_memory, refused_some, sheet_refused, too_loose, too_short}

-- the sheet is accepted; `text` is the lines that `explain` returns for the report with the number 1 and the file name `report`; no
-- refused reports are returned
pub record IsExplained (format : Format) (sheet report text : List ℕ) (returned : List (ℕ × Refusal)) : Type 0 where
  pub listed : Sheet
  pub read : sheet_outcome sheet ≡ Ok listed
  pub input : Input
  pub number : input.report ≡ Some 1
  pub name : input.name.now ≡ codes "report"
  pub format_is : input.format ≡ format
  pub explained : Explained
  pub explains : Explains input report (printed_faults listed report) explained
  pub text_is : text ≡ string_bytes explained.text
  pub none : returned ≡ []

-- the result of a call that explains a report: the status, and the caller's memory before and after the call
pub record AnswersExplain (format : Format) (sheet report : List ℕ) (status : ℕ) (old new : CallerMemory) : Type 0 where
  pub within : status ≤ no_memory
  pub not_loose : status ≢ too_loose
  pub listed : status ≤ refused_some → Hands (IsExplained format sheet report) old new
  pub no_line : status ≡ done → new.needed ≡ 0
  pub some_lines : status ≡ refused_some → 0 < new.needed
  pub short : status ≡ too_short → Asks (IsExplained format sheet report) old new
  pub sheet_is_refused : status ≡ sheet_refused → Rejects (IsSheetRefused sheet) old new
  pub same : status ≡ no_memory → new ≡ old
