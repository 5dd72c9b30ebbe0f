-- Calls that list rows: the appended bytes, the returned refusals, and the faults (own).
use Rattle.std.specs.Prelude.{◌≡◌, ◌⊎◌, ℕ, Option, List, [], ◌++◌}
use Rattle.std.specs.Io.KnownBytes.{Appends}
use Rattle.oim_report.specs.Sheet.{Sheet}
use Rattle.oim_report.specs.declared.refusal.Refusal.{Refusal}
use Rattle.fact_base.specs.Body.{Body}
use Rattle.oim_write.specs.Sink.{AppendsFront}
use Rattle.oim_merge.specs.Lines.{AreRowsOf, RowText, line_text}
use Rattle.oim_merge.specs.Reports.{merged, refused}
use Rattle.oim_merge.specs.Run.{StopsBefore}
use Rattle.oim_merge.specs.declared.fault.Fault.{Fault}
use Rattle.oim_merge.specs.declared.fault.Fault.TheVariants.{OutOfMemory, Device, TooLoose, Sheet as SheetFault}

module _ (header : List ℕ) (written : RowText) where
  -- the header and the rows of a body were appended
  pub record AppendsRows (b : Body) (old new : Option (List ℕ)) : Type 0 where
    pub rows : List ℕ
    pub are : AreRowsOf written b rows
    pub appended : Appends old new (header ++ rows)

  -- a first part of the header and the rows was appended; `count` is the number of these bytes, and saturates
  pub record AppendsFrontOfRows (b : Body) (old new : Option (List ℕ)) (count : ℕ) : Type 0 where
    pub rows : List ℕ
    pub are : AreRowsOf written b rows
    pub front : AppendsFront old new (header ++ rows) count

  -- the header and the rows of a body were appended, and these refusals were returned
  pub record ListsRows (b : Body) (refusals : List (ℕ × Refusal)) (old new : Option (List ℕ)) (returned : List (ℕ × Refusal)) : Type 0 where
    pub refusals_are : returned ≡ refusals
    pub listed : AppendsRows b old new

  -- a fault: memory was refused or the device failed; a first part of the header and the rows was appended, or nothing yet
  abbrev pub RowsStop : Body → Option (List ℕ) → Option (List ℕ) → Fault → Type 0
  RowsStop b old new (OutOfMemory count) = StopsBefore old new count ⊎ AppendsFrontOfRows b old new count
  RowsStop b old new (Device count) = AppendsFrontOfRows b old new count
  RowsStop b old new (TooLoose row returned) = ⊥
  RowsStop b old new (SheetFault reason) = ⊥

-- ---- verdict lines

-- the verdict lines of the accepted reports were appended, and the refusals of the other reports were returned
abbrev pub ListsVerdicts : Sheet → List (List ℕ) → Option (List ℕ) → Option (List ℕ) → List (ℕ × Refusal) → Type 0
ListsVerdicts sheet reports = ListsRows [] line_text (merged sheet reports) (refused sheet reports)

abbrev pub VerdictsStop : Sheet → List (List ℕ) → Option (List ℕ) → Option (List ℕ) → Fault → Type 0
VerdictsStop sheet reports = RowsStop [] line_text (merged sheet reports)
