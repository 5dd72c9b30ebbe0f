-- The separators in the texts of periods and units (xBRL-JSON 1.0).
use Rattle.std.specs.Prelude.{ℕ, Bool, ◌==◌}

-- `/` separates the two moments of a period, and the two sides of a unit
abbrev pub is_slash : ℕ → Bool
is_slash c = c == 47

-- `*` separates the measures of a side
abbrev pub is_star : ℕ → Bool
is_star c = c == 42
