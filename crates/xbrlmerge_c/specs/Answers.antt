-- Why a call fails (own).
use Rattle.std.specs.Prelude.{ℕ, List}
use Rattle.oim_names.specs.declared.reason.Reason.{Reason}
use Rattle.oim_report.specs.declared.refusal.Refusal.{Refusal}
use Rattle.oim_merge.specs.declared.fault.Fault.{Fault}
use Rattle.oim_merge.specs.declared.fault.Fault.TheVariants.{OutOfMemory, Device, TooLoose, Sheet as SheetFault}

-- why a call failed, given the conditions for a row above the level and for a refused sheet. There is no condition for refused memory.
-- There is no condition for a failed device either: a sink in memory fails only if memory is refused.
abbrev pub StopsBy : (ℕ → List (ℕ × Refusal) → Type 0) → (Reason → Type 0) → Fault → Type 0
StopsBy IsRow IsSheet (TooLoose number returned) = IsRow number returned
StopsBy IsRow IsSheet (SheetFault reason) = IsSheet reason
StopsBy IsRow IsSheet (OutOfMemory written) = Unit {0}
StopsBy IsRow IsSheet (Device written) = Unit {0}

-- the condition for a row above the level if a call has no level: it never holds
abbrev pub NoRow : ℕ → List (ℕ × Refusal) → Type 0
NoRow number returned = ⊥

-- the condition for a refused sheet if the sheet was read before: it never holds
abbrev pub NoReason : Reason → Type 0
NoReason reason = ⊥
