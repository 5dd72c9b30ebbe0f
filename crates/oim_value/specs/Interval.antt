-- Rounding intervals with both ends (XBRL 2.1, 4.6; XBRL working group note on duplicate facts), in units of 10^-UNIT_PLACES.
use Rattle.std.specs.Prelude.{◌≡◌, ◌↔◌, ℕ, ◌-◌, ◌*◌, ◌^◌, ◌<◌, ◌≤◌, ℤ, pos, neg_ℤ, ◌+ℤ◌, ◌-ℤ◌, ◌≤ℤ◌, int_le, unsigned_abs, Bool, ◌&&◌, IsTrue, Option, Some, None}
use Rattle.std.specs.Int.{int_max, int_min}
use Rattle.oim_value.specs.declared.interval.Interval.{Interval}
use Rattle.oim_value.specs.declared.limits.TheConstants.{UNIT_PLACES}

-- UNIT_PLACES - 1 - d, which is not negative for finite decimals d, since they are below UNIT_PLACES
abbrev pub half_zeros : ℤ → ℕ
half_zeros d = unsigned_abs (pos (UNIT_PLACES - 1) -ℤ d)

-- half of the last decimal place, 0.5 * 10^-d; zero for an exact number
abbrev pub half_width : Option ℤ → ℕ
half_width (Some d) = 5 * 10 ^ half_zeros d
half_width None = 0

-- the numbers that may have been rounded to this number with these decimals
abbrev pub interval : ℤ → Option ℤ → Interval
interval units decimals = record { low = units -ℤ pos (half_width decimals); high = units +ℤ pos (half_width decimals) }

-- the number `units` lies in an interval, which includes both ends
pub record IsWithin (units : ℤ) (i : Interval) : Type 0 where
  pub above : i.low ≤ℤ units
  pub below : units ≤ℤ i.high

-- the interval is not empty: its low end is at most its high end
abbrev pub HasPoints : Interval → Type 0
HasPoints i = i.low ≤ℤ i.high

-- neither interval ends before the other begins
abbrev pub intervals_meet : Interval → Interval → Bool
intervals_meet a b = int_le a.low b.high && int_le b.low a.high

-- from the greater low end to the lesser high end; empty if the intervals do not meet
abbrev pub common_part : Interval → Interval → Interval
common_part a b = record { low = int_max a.low b.low; high = int_min a.high b.high }

-- for decimals d from 0 to UNIT_PLACES - 1, twice the half width is 10^-d; for decimals -d, it is 10^d (next law)
abbrev pub HalfAfterPoint : Type 0
HalfAfterPoint = (d : ℕ) → d < UNIT_PLACES → 2 * half_width (Some (pos d)) * 10 ^ d ≡ 10 ^ UNIT_PLACES

abbrev pub HalfBeforePoint : Type 0
HalfBeforePoint = (d : ℕ) → 2 * half_width (Some (neg_ℤ (pos d))) ≡ 10 ^ UNIT_PLACES * 10 ^ d

-- a number lies in the interval exactly if it differs from the rounded number by at most the half width
abbrev pub WithinIsNear : Type 0
WithinIsNear = (z units : ℤ) (decimals : Option ℤ) → IsWithin z (interval units decimals) ↔ (unsigned_abs (z -ℤ units) ≤ half_width decimals)

abbrev pub IntervalHasNumber : Type 0
IntervalHasNumber = (units : ℤ) (decimals : Option ℤ) → IsWithin units (interval units decimals)

abbrev pub IntervalHasPoints : Type 0
IntervalHasPoints = (units : ℤ) (decimals : Option ℤ) → HasPoints (interval units decimals)

abbrev pub CommonIsAssociative : Type 0
CommonIsAssociative = (a b c : Interval) → common_part (common_part a b) c ≡ common_part a (common_part b c)

abbrev pub CommonIsCommutative : Type 0
CommonIsCommutative = (a b : Interval) → common_part a b ≡ common_part b a

abbrev pub CommonIsIdempotent : Type 0
CommonIsIdempotent = (a : Interval) → common_part a a ≡ a

-- a number lies in the common part exactly if it lies in both intervals
abbrev pub CommonIsBoth : Type 0
CommonIsBoth = (units : ℤ) (a b : Interval) → IsWithin units (common_part a b) ↔ (IsWithin units a × IsWithin units b)

pub record IsCommonPoint (a b : Interval) (units : ℤ) : Type 0 where
  pub first : IsWithin units a
  pub second : IsWithin units b

-- two non-empty intervals meet exactly if some number lies in both
abbrev pub MeetsByCommonPoint : Type 0
MeetsByCommonPoint = (a b : Interval) → HasPoints a → HasPoints b → IsTrue (intervals_meet a b) ↔ ((units : ℤ) × IsCommonPoint a b units)

-- two non-empty intervals meet exactly if their common part is not empty
abbrev pub MeetsByCommonPart : Type 0
MeetsByCommonPart = (a b : Interval) → HasPoints a → HasPoints b → IsTrue (intervals_meet a b) ↔ HasPoints (common_part a b)
