-- The size of the ends of intervals (own).
use Rattle.std.specs.Prelude.{ℕ, ◌+◌, ◌^◌, ◌<◌, ℤ, neg_ℤ, unsigned_abs, Option, Some}
use Rattle.oim_value.specs.declared.interval.Interval.{Interval}
use Rattle.oim_value.specs.declared.limits.TheConstants.{MOST_DECIMALS, MOST_DIGITS, UNIT_PLACES}
use Rattle.oim_value.specs.Decimals.{AreDecimals}
use Rattle.oim_value.specs.Interval.{half_width, interval}
use Rattle.oim_value.specs.Number.{IsShort}

-- the bound of a short number's size, plus the greatest half width
abbrev pub end_bound : ℕ
end_bound = 10 ^ (MOST_DIGITS + UNIT_PLACES) + half_width (Some (neg_ℤ MOST_DECIMALS))

pub record EndsAreBounded (i : Interval) : Type 0 where
  pub low : unsigned_abs i.low < end_bound
  pub high : unsigned_abs i.high < end_bound

-- both ends of a short number's interval are bounded if the decimals are in range or infinite
abbrev pub IntervalEndsAreBounded : Type 0
IntervalEndsAreBounded = (units : ℤ) (decimals : Option ℤ) → IsShort units → AreDecimals decimals → EndsAreBounded (interval units decimals)
