-- The number that a text denotes, as a function.
use Rattle.std.specs.Prelude.{◌≡◌, ◌↔◌, ℕ, ◌*◌, ◌/◌, ◌^◌, ℤ, List, length, None}
use Rattle.std.specs.Str.Parse.{digits_value}
use Rattle.oim_value.specs.declared.limits.TheConstants.{UNIT_PLACES}
use Rattle.oim_value.specs.Number.{signed, is_negative, both_parts, fraction_part, number_refusal, Denotes}

-- the units that a text denotes, rounded toward zero
abbrev pub units_of : List ℕ → ℤ
units_of t = signed (is_negative t) (10 ^ UNIT_PLACES * digits_value 10 (both_parts t) / 10 ^ length (fraction_part t))

-- a text that is accepted as a number denotes exactly these units
abbrev pub ShortNumbersDenote : Type 0
ShortNumbersDenote = (t : List ℕ) (units : ℤ) → number_refusal t ≡ None → Denotes t units ↔ (units ≡ units_of t)
