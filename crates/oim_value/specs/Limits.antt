-- The limits of numbers (own): the constants of the code and their meaning.
use Rattle.std.specs.Prelude.{◌≡◌, ◌↔◌, ℕ, ◌^◌, ◌≤◌, ℤ, pos, neg_ℤ, ◌≤ℤ◌, IsTrue, List, codes}
use Rattle.oim_value.specs.declared.limits.TheConstants.{MOST_DECIMALS, MOST_DIGITS, UNIT_PLACES}
use Rattle.oim_value.specs.Decimals.{is_finite_decimals}
use Rattle.oim_value.specs.Number.{counted, is_short, Denotes}

pub record LimitsAre : Type 0 where
  pub digits : MOST_DIGITS ≡ 18
  pub places : UNIT_PLACES ≡ 19
  pub decimals : MOST_DECIMALS ≡ pos 18

-- a text is short exactly if at most 18 of its digits are significant, as `counted` counts them
abbrev pub DigitsAreFew : Type 0
DigitsAreFew = (t : List ℕ) → IsTrue (is_short t) ↔ (counted t ≤ 18)

-- the text "1" denotes 10^19 units of 10^-19
abbrev pub OneIsUnits : Type 0
OneIsUnits = Denotes (codes "1") (pos (10 ^ 19))

-- finite decimals range from -18 to 18
abbrev pub DecimalsAreInRange : Type 0
DecimalsAreInRange = (d : ℤ) → IsTrue (is_finite_decimals d) ↔ ((neg_ℤ (pos 18) ≤ℤ d) × (d ≤ℤ pos 18))
