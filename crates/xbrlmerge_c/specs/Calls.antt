-- The results of calls on the bytes of a sheet and of reports (own).
use Rattle.std.specs.Prelude.{◌≡◌, ◌≢◌, ◌≤◌, ◌<◌, ◌+◌, ◌==◌, ℕ, List, [], length, if◌then◌else◌, Option, Some, None, Ok, Err}
use Rattle.oim_names.specs.declared.reason.Reason.{Reason}
use Rattle.oim_value.specs.declared.level.Level.{Level}
use Rattle.oim_report.specs.Sheet.{Sheet, sheet_outcome}
use Rattle.oim_report.specs.declared.refusal.Refusal.{Refusal}
use Rattle.oim_write.specs.BoundedSink.{default_bound}
use Rattle.oim_write.specs.Bytes.{canonical}
use Rattle.oim_merge.specs.Above.{IsFirstAbove, StaysWithin}
use Rattle.oim_merge.specs.Lines.{AreLines}
use Rattle.oim_merge.specs.Reports.{merged, refused}
use Rattle.oim_merge.specs.Sources.{sources}
use Rattle.row_formats.specs.Rows.{AreRows}
use Rattle.row_formats.specs.SourceRows.{sources_in}
use Rattle.row_formats.specs.declared.row_format.RowFormat.TheVariants.{Json}
use Rattle.xbrlmerge_c.specs.Ends.{AreEnds, reports_at}
use Rattle.xbrlmerge_c.specs.CallerMemory.{Asks, CallerMemory, Hands, Rejects}
use Rattle.xbrlmerge_c.specs.Statuses.{bad_ends, bad_level, done, no_memory, refused_some, sheet_refused, too_loose, too_much, too_short}
use Rattle.xbrlmerge_c.specs.declared.row_call.RowCall.{RowCall}
use Rattle.xbrlmerge_c.specs.declared.row_call.RowCall.TheVariants.{Sources, SourcesJson, Verdicts, VerdictsJson}

abbrev pub IsSheetRefused : List ℕ → Reason → Type 0
IsSheetRefused sheet reason = sheet_outcome sheet ≡ Err reason

-- the sheet is accepted, no row is above the level, `text` is the accepted reports' canonical text, and `returned` lists the refusals
pub record Merges (sheet : List ℕ) (reports : List (List ℕ)) (level : Level) (text : List ℕ) (returned : List (ℕ × Refusal)) : Type 0 where
  pub listed : Sheet
  pub read : sheet_outcome sheet ≡ Ok listed
  pub within : StaysWithin level (merged listed reports)
  pub text_is : text ≡ canonical (merged listed reports)
  pub refusals_are : returned ≡ refused listed reports

-- the sheet is accepted; the row with this number, counted from 1, is the first above the level; `returned` lists the refusals
pub record IsLoose (sheet : List ℕ) (reports : List (List ℕ)) (level : Level) (number : ℕ) (returned : List (ℕ × Refusal)) : Type 0 where
  pub listed : Sheet
  pub read : sheet_outcome sheet ≡ Ok listed
  pub first : IsFirstAbove level (merged listed reports) number
  pub refusals_are : returned ≡ refused listed reports

-- the reports are bytes, so their sources have no files
abbrev pub IsTextOf : RowCall → Sheet → List (List ℕ) → List ℕ → Type 0
IsTextOf Verdicts sheet reports text = AreLines (merged sheet reports) text
IsTextOf Sources sheet reports text = text ≡ sources sheet reports
IsTextOf VerdictsJson sheet reports text = AreRows Json (merged sheet reports) text
IsTextOf SourcesJson sheet reports text = text ≡ sources_in Json [] sheet reports

-- ---- a bound on the text

-- the bound that a call with the argument `most` has: 0 stands for the default, for the bytes of the sheet and the reports
abbrev pub bound_of : ℕ → List ℕ → List ℕ → ℕ
bound_of most sheet bytes = if most == 0 then default_bound (length sheet + length bytes) else most

abbrev pub IsWithin : Option ℕ → List ℕ → Type 0
IsWithin None text = Unit {0}
IsWithin (Some bound) text = length text ≤ bound

abbrev pub IsBeyond : Option ℕ → List ℕ → Type 0
IsBeyond None text = ⊥
IsBeyond (Some bound) text = bound < length text

-- ---- calls that list rows or sources

-- the sheet is accepted; `text` lists the rows or sources of the accepted reports, within the bound; `returned` lists the refusals of the other reports
pub record Lists (call : RowCall) (bound : Option ℕ) (sheet : List ℕ) (reports : List (List ℕ)) (text : List ℕ) (returned : List (ℕ × Refusal)) : Type 0 where
  pub listed : Sheet
  pub read : sheet_outcome sheet ≡ Ok listed
  pub is : IsTextOf call listed reports text
  pub within : IsWithin bound text
  pub refusals_are : returned ≡ refused listed reports

-- the sheet is accepted, and the text that lists the rows or sources of the accepted reports is longer than the bound
pub record IsTooMuch (call : RowCall) (bound : Option ℕ) (sheet : List ℕ) (reports : List (List ℕ)) : Type 0 where
  pub listed : Sheet
  pub read : sheet_outcome sheet ≡ Ok listed
  pub text : List ℕ
  pub is : IsTextOf call listed reports text
  pub beyond : IsBeyond bound text

-- the result of a call that lists rows or sources: the status, and the caller's memory before and after the call
pub record AnswersRowCall (call : RowCall) (bound : Option ℕ) (sheet bytes ends : List ℕ) (status : ℕ) (old new : CallerMemory) : Type 0 where
  pub within : status ≤ too_much
  pub not_loose : status ≢ too_loose
  pub has_level : status ≢ bad_level
  pub are_ends : status ≤ no_memory → AreEnds bytes ends
  pub listed : status ≤ refused_some → Hands (Lists call bound sheet (reports_at bytes ends)) old new
  pub none_refused : status ≡ done → new.refused ≡ 0
  pub some_refused : status ≡ refused_some → 0 < new.refused
  pub short : status ≡ too_short → Asks (Lists call bound sheet (reports_at bytes ends)) old new
  pub sheet_is_refused : status ≡ sheet_refused → Rejects (IsSheetRefused sheet) old new
  pub no_ends : status ≡ bad_ends → AreEnds bytes ends → ⊥
  pub is_too_much : status ≡ too_much → AreEnds bytes ends × IsTooMuch call bound sheet (reports_at bytes ends)
  pub same : no_memory ≤ status → new ≡ old
