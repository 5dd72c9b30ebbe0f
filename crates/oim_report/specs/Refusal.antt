-- A value, or the reason to refuse it (own).
use Rattle.std.specs.Prelude.{Option, Some, None, Result, Ok, Err}
use Rattle.oim_names.specs.declared.reason.Reason.{Reason}

-- the value, or the reason if there is one
abbrev pub unless : {A : Type 0} → Option Reason → A → Result A Reason
unless None a = Ok a
unless (Some reason) a = Err reason

abbrev pub map_ok : {A B E : Type 0} → (A → B) → Result A E → Result B E
map_ok f (Ok a) = Ok (f a)
map_ok f (Err e) = Err e
