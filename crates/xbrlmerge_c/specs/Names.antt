-- The names of refusals by number (own).
use Rattle.std.specs.Prelude.{ℕ, List, [], Option, Some, None, slice_get}
use Rattle.oim_names.specs.Reasons.{entry_of, reasons}
use Rattle.oim_names.specs.declared.reason.Reason.{Reason}

abbrev pub name_of : Option Reason → List ℕ
name_of (Some reason) = (entry_of reason).name
name_of None = []

-- the name of the refusal with this number; empty if no refusal has the number
abbrev pub name_numbered : ℕ → List ℕ
name_numbered number = name_of (slice_get reasons number)
