-- The reports that were refused in a run, which its output does not replace (own).
use Rattle.std.specs.Prelude.{◌≡◌, ◌≢◌, ◌<◌, ◌+◌, ◌==◌, ℕ, Bool, true, nat_lt, List, length, get_or}
use Rattle.std.specs.Borrow.{Bor}
use Rattle.std.specs.List.{list_any}
use Rattle.oim_report.specs.declared.refusal.Refusal.{Refusal}
use Rattle.command_line.specs.declared.error.Success.{Success}
use Rattle.command_line.specs.declared.error.Success.TheVariants.{Refusals, Faults}

abbrev pub is_of : ℕ → ℕ × Refusal → Bool
is_of number refusal = refusal.0 == number

-- the report with this number, from 1, was refused; after a fault, each report of `explain` counts as refused
abbrev pub refuses : Success → ℕ → Bool
refuses (Refusals refusals) number = list_any (is_of number) refusals
refuses (Faults count) number = nat_lt 0 count

-- no refused report has this name
abbrev pub SparesRefused : List (Bor (List ℕ)) → List ℕ → Success → Type 0
SparesRefused reports name success = (i : ℕ) → i < length reports → refuses success (i + 1) ≡ true → (d : Bor (List ℕ)) → (get_or reports i d).now ≢ name
