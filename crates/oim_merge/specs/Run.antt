-- The bytes that a merge appends, the refusals that it returns, and its faults (own).
use Rattle.std.specs.Prelude.{◌≡◌, ◌⊎◌, ◌+◌, ℕ, Option, List, [], Result, Ok, Err}
use Rattle.std.specs.Io.KnownBytes.{Appends}
use Rattle.oim_value.specs.declared.level.Level.{Level}
use Rattle.oim_value.specs.declared.level.Level.TheVariants.{All as AllLevel}
use Rattle.oim_report.specs.Sheet.{Sheet, sheet_outcome}
use Rattle.oim_report.specs.declared.refusal.Refusal.{Refusal}
use Rattle.fact_base.specs.Body.{Body}
use Rattle.fact_base.specs.Passed.{SameMembers}
use Rattle.oim_write.specs.Bytes.{canonical}
use Rattle.oim_write.specs.Sink.{AppendsFront}
use Rattle.oim_write.specs.declared.write_fault.WriteFault.{WriteFault}
use Rattle.oim_write.specs.declared.write_fault.WriteFault.TheVariants.{OutOfMemory as WriteOutOfMemory, Device as WriteDevice}
use Rattle.oim_merge.specs.Above.{IsFirstAbove, StaysWithin}
use Rattle.oim_merge.specs.Bundle.{sheet_piece, report_pieces}
use Rattle.oim_merge.specs.Reports.{accepted, merged, refused}
use Rattle.oim_merge.specs.declared.fault.Fault.{Fault}
use Rattle.oim_merge.specs.declared.fault.Fault.TheVariants.{OutOfMemory, Device, TooLoose, Sheet as SheetFault}

-- ---- a body is written if it stays within a level

-- the body stays within the level, its text was appended, and these refusals were returned
pub record Writes (level : Level) (b : Body) (refusals : List (ℕ × Refusal)) (old new : Option (List ℕ)) (returned : List (ℕ × Refusal)) : Type 0 where
  pub within : StaysWithin level b
  pub refusals_are : returned ≡ refusals
  pub appended : Appends old new (canonical b)

-- the body stays within the level, and a first part of its text was appended; `written` counts the appended bytes, and saturates
pub record StopsWithin (level : Level) (b : Body) (old new : Option (List ℕ)) (written : ℕ) : Type 0 where
  pub within : StaysWithin level b
  pub front : AppendsFront old new (canonical b) written

-- nothing was appended yet, and `written` is 0
abbrev pub StopsBefore : Option (List ℕ) → Option (List ℕ) → ℕ → Type 0
StopsBefore old new written = (written ≡ 0) × Appends old new []

-- the row with this number is the first above the level, these refusals were returned, and nothing was appended
pub record IsTooLoose (level : Level) (b : Body) (refusals : List (ℕ × Refusal)) (old new : Option (List ℕ)) (row : ℕ) (returned : List (ℕ × Refusal)) : Type 0 where
  pub first : IsFirstAbove level b row
  pub refusals_are : returned ≡ refusals
  pub appended : Appends old new []

-- a fault: memory was refused, the device failed, or a row is above the level
abbrev pub Stops : Level → Body → List (ℕ × Refusal) → Option (List ℕ) → Option (List ℕ) → Fault → Type 0
Stops level b refusals old new (OutOfMemory written) = StopsBefore old new written ⊎ StopsWithin level b old new written
Stops level b refusals old new (Device written) = StopsWithin level b old new written
Stops level b refusals old new (TooLoose row returned) = IsTooLoose level b refusals old new row returned
Stops level b refusals old new (SheetFault reason) = ⊥

-- ---- reports

-- the body of the accepted reports stays within the level, its text was appended, and the refusals of the other reports were returned
abbrev pub Consolidates : Sheet → List (List ℕ) → Level → Option (List ℕ) → Option (List ℕ) → List (ℕ × Refusal) → Type 0
Consolidates sheet reports level = Writes level (merged sheet reports) (refused sheet reports)

abbrev pub ConsolidationStops : Sheet → List (List ℕ) → Level → Option (List ℕ) → Option (List ℕ) → Fault → Type 0
ConsolidationStops sheet reports level = Stops level (merged sheet reports) (refused sheet reports)

-- ---- a bundle: all duplicates are allowed

abbrev pub IsSheetOf : List ℕ → Sheet → Type 0
IsSheetOf bytes sheet = sheet_outcome (sheet_piece bytes) ≡ Ok sheet

pub record ConsolidatesBundle (bytes : List ℕ) (old new : Option (List ℕ)) (returned : List (ℕ × Refusal)) : Type 0 where
  pub sheet : Sheet
  pub read : IsSheetOf bytes sheet
  pub consolidates : Consolidates sheet (report_pieces bytes) AllLevel old new returned

-- the sheet was read, and this fault occurred later
pub record StopsBehindSheet (bytes : List ℕ) (old new : Option (List ℕ)) (fault : Fault) : Type 0 where
  pub sheet : Sheet
  pub read : IsSheetOf bytes sheet
  pub stops : ConsolidationStops sheet (report_pieces bytes) AllLevel old new fault

abbrev pub BundleStops : List ℕ → Option (List ℕ) → Option (List ℕ) → Fault → Type 0
BundleStops bytes old new (SheetFault reason) = (sheet_outcome (sheet_piece bytes) ≡ Err reason) × Appends old new []
BundleStops bytes old new (OutOfMemory written) = StopsBefore old new written ⊎ StopsBehindSheet bytes old new (OutOfMemory written)
BundleStops bytes old new fault = StopsBehindSheet bytes old new fault

-- ---- faults

abbrev pub fault_of : WriteFault → Fault
fault_of (WriteOutOfMemory n) = OutOfMemory n
fault_of (WriteDevice n) = Device n

-- the failures of a sink that had failed n times: n + 1 if the device failed, otherwise n
abbrev pub failures_after_run : {T : Type 0} → Result T Fault → ℕ → ℕ
failures_after_run (Ok x) n = n
failures_after_run (Err (Device w)) n = n + 1
failures_after_run (Err _) n = n

-- ---- order

-- the order and the repetition of accepted reports do not change the canonical text
abbrev pub ReportsIgnoreOrder : Type 0
ReportsIgnoreOrder =
    (sheet : Sheet) (reports others : List (List ℕ)) → SameMembers (accepted sheet reports) (accepted sheet others) →
    canonical (merged sheet reports) ≡ canonical (merged sheet others)
