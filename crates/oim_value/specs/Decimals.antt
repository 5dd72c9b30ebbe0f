-- The precision of a number (Open Information Model, `decimals`).
use Rattle.std.specs.Prelude.{ℤ, Bool, nat_le, unsigned_abs, ◌≡◌, IsTrue, Option, Some, None, refl}
use Rattle.oim_value.specs.declared.limits.TheConstants.{MOST_DECIMALS}
use Rattle.oim_value.specs.declared.decimals.Places.{Places}
use Rattle.oim_value.specs.declared.decimals.Places.TheVariants.{Finite, Infinite}

-- finite decimals range from -MOST_DECIMALS to MOST_DECIMALS (own)
abbrev pub is_finite_decimals : ℤ → Bool
is_finite_decimals d = nat_le (unsigned_abs d) (unsigned_abs MOST_DECIMALS)

-- the decimals that a number may have: finite ones in range, or infinite ones
abbrev pub AreDecimals : Option ℤ → Type 0
AreDecimals (Some d) = IsTrue (is_finite_decimals d)
AreDecimals None = Unit {0}

-- contracts see the number of places, or None for infinite decimals
abbrev pub finite_of : Places → Option ℤ
finite_of (Finite d) = Some d
finite_of Infinite = None

abbrev pub places_of : Option ℤ → Places
places_of (Some d) = Finite d
places_of None = Infinite

pub places_of-finite_of : (p : Places) → places_of (finite_of p) ≡ p
places_of-finite_of (Finite d) = refl
places_of-finite_of Infinite = refl
