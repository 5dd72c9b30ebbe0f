-- The status of a call and the caller's memory after it (own).
use Rattle.std.specs.Prelude.{◌≡◌, ◌<◌, ◌⊎◌, ℕ, List, [], length, Result, Ok, Err}
use Rattle.oim_report.specs.declared.refusal.Refusal.{Refusal}
use Rattle.oim_merge.specs.declared.fault.Fault.{Fault}
use Rattle.oim_merge.specs.declared.fault.Fault.TheVariants.{OutOfMemory, Device, TooLoose, Sheet as SheetFault}
use Rattle.xbrlmerge_c.specs.CallerMemory.{CallerMemory, IsHanded, IsTooShort, TellsReason, TellsRow}
use Rattle.xbrlmerge_c.specs.Statuses.{done, no_memory, refused_some, sheet_refused, too_loose, too_short}
use Rattle.xbrlmerge_c.specs.declared.output.Made.{Made}

-- the text was written and the status shows whether reports were refused, unless a buffer is too short
abbrev pub AnswersText : List ℕ → List (ℕ × Refusal) → CallerMemory → CallerMemory → ℕ → Type 0
AnswersText text returned old new status =
    ((status ≡ too_short) × IsTooShort text returned old new)
    ⊎ (((status ≡ done) × ((returned ≡ []) × IsHanded text returned old new))
    ⊎ ((status ≡ refused_some) × ((0 < length returned) × IsHanded text returned old new)))

-- the number of the row and the refused reports were returned, unless the buffer for these reports is too short
abbrev pub AnswersRow : ℕ → List (ℕ × Refusal) → CallerMemory → CallerMemory → ℕ → Type 0
AnswersRow number returned old new status =
    ((status ≡ too_short) × IsTooShort [] returned old new) ⊎ ((status ≡ too_loose) × TellsRow number returned old new)

abbrev pub Answers : Result Made Fault → CallerMemory → CallerMemory → ℕ → Type 0
Answers (Ok made) old new status = AnswersText made.text.items made.refusals old new status
Answers (Err (TooLoose number returned)) old new status = AnswersRow number returned old new status
Answers (Err (SheetFault reason)) old new status = (status ≡ sheet_refused) × TellsReason reason old new
Answers (Err (OutOfMemory written)) old new status = (status ≡ no_memory) × (new ≡ old)
Answers (Err (Device written)) old new status = (status ≡ no_memory) × (new ≡ old)
