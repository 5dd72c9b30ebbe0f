-- Contracts on bytes follow from contracts on the parsed sheet and the added reports.
use Rattle.std.proofs.Common.{◌≡◌, ℕ, List, [], ◌++◌, Option, Some, Ok, refl, sym, ap, subst, ◌∙◌}
use Rattle.oim_value.specs.declared.level.Level.{Level}
use Rattle.oim_report.specs.Sheet.{Sheet, sheet_outcome}
use Rattle.oim_report.specs.declared.refusal.Refusal.{Refusal}
use Rattle.oim_write.specs.Bytes.{canonical}
use Rattle.oim_merge.specs.Above.{IsFirstAbove, StaysWithin}
use Rattle.oim_merge.specs.Added.{Added, added}
use Rattle.oim_merge.specs.Lines.{AreLines}
use Rattle.oim_merge.specs.Reports.{merged, refused}
use Rattle.oim_merge.specs.Run.{Stops, Writes}
use Rattle.oim_merge.specs.Sources.{sources}
use Rattle.oim_merge.specs.declared.fault.Fault.{Fault}
use Rattle.oim_merge.specs.declared.fault.Fault.TheVariants.{OutOfMemory, Device, TooLoose, Sheet as SheetFault}
use Rattle.row_formats.specs.Rows.{AreRows}
use Rattle.row_formats.specs.SourceRows.{sources_in}
use Rattle.row_formats.specs.declared.row_format.RowFormat.TheVariants.{Json}
use Rattle.xbrlmerge_c.specs.Answers.{StopsBy}
use Rattle.xbrlmerge_c.specs.Calls.{IsTextOf, IsLoose, IsSheetRefused, Merges}
use Rattle.xbrlmerge_c.specs.code.RowCall.{AppendsRowCall}
use Rattle.xbrlmerge_c.specs.declared.row_call.RowCall.{RowCall}
use Rattle.xbrlmerge_c.specs.declared.row_call.RowCall.TheVariants.{Sources, SourcesJson, Verdicts, VerdictsJson}

module _ (sheet : List ℕ) (reports : List (List ℕ)) (listed : Sheet) (a : Added) (read : sheet_outcome sheet ≡ Ok listed) (is : a ≡ added listed reports) where
  pub merges : (level : Level) (before after : List ℕ) (returned : List (ℕ × Refusal)) → before ≡ [] → Writes level a.body a.refusals (Some before) (Some after) returned → Merges sheet reports level after returned
  merges level before after returned none w = record {
    listed = listed;
    read = read;
    within = subst (StaysWithin level) (ap (λ (b : Added). b.body) is) w.within;
    text_is = w.appended ∙ ap (λ b. b ++ canonical a.body) none ∙ ap (λ (b : Added). canonical b.body) is;
    refusals_are = w.refusals_are ∙ ap (λ (b : Added). b.refusals) is;
  }

  pub stops : (level : Level) (old new : Option (List ℕ)) (fault : Fault) → Stops level a.body a.refusals old new fault → StopsBy (IsLoose sheet reports level) (IsSheetRefused sheet) fault
  stops level old new (OutOfMemory written) s = tt
  stops level old new (Device written) s = tt
  stops level old new (TooLoose number returned) s = record {
    listed = listed;
    read = read;
    first = subst (λ b. IsFirstAbove level b number) (ap (λ (b : Added). b.body) is) s.first;
    refusals_are = s.refusals_are ∙ ap (λ (b : Added). b.refusals) is;
  }
  stops level old new (SheetFault reason) s = absurd s

module _ (sheet : Sheet) (reports : List (List ℕ)) (before after : List ℕ) (returned : List (ℕ × Refusal)) (none : before ≡ []) where
  pub lists : (call : RowCall) → AppendsRowCall call sheet reports (Some before) (Some after) returned → IsTextOf call sheet reports after × (returned ≡ refused sheet reports)
  lists Verdicts w = (subst (AreLines (merged sheet reports)) (sym (w.listed.appended ∙ ap (λ b. b ++ w.listed.rows) none)) w.listed.are, w.refusals_are)
  lists Sources w = (w.appended ∙ ap (λ b. b ++ sources sheet reports) none, w.refusals_are)
  lists VerdictsJson w = (subst (AreRows Json (merged sheet reports)) (sym (w.listed.appended ∙ ap (λ b. b ++ w.listed.rows) none)) (record { rows = w.listed.rows; are = w.listed.are; whole = refl }), w.refusals_are)
  lists SourcesJson w = (w.appended ∙ ap (λ b. b ++ sources_in Json [] sheet reports) none, w.refusals_are)
