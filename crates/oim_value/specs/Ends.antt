-- The ends of several intervals, and the values that have intervals (own).
use Rattle.std.specs.Prelude.{◌≡◌, ◌↔◌, ◌<◌, Bool, true, false, IsTrue, List, [], ◌∷◌, length, ℤ, ◌≤ℤ◌}
use Rattle.std.specs.List.{All, Any, AllPairs, flat_map}
use Rattle.oim_value.specs.Interval.{HasPoints, IsWithin, interval, intervals_meet}
use Rattle.oim_value.specs.declared.interval.Interval.{Interval}
use Rattle.oim_value.specs.declared.value.Value.{Value}
use Rattle.oim_value.specs.declared.value.Value.TheVariants.{Number}

-- e ranges from the greatest low end of the intervals to their least high end
pub record AreEnds (e : Interval) (is : List Interval) : Type 0 where
  pub low_reached : Any (λ i. i.low ≡ e.low) is
  pub low_greatest : All (λ i. i.low ≤ℤ e.low) is
  pub high_reached : Any (λ i. i.high ≡ e.high) is
  pub high_least : All (λ i. e.high ≤ℤ i.high) is

-- one or more intervals have a greatest low end and a least high end
abbrev pub EndsExist : Type 0
EndsExist = (is : List Interval) → 0 < length is → (e : Interval) × AreEnds e is

-- the greatest low end and the least high end are unique
abbrev pub EndsAreOne : Type 0
EndsAreOne = (is : List Interval) (d e : Interval) → AreEnds d is → AreEnds e is → d ≡ e

-- a number lies between the ends exactly if it lies in each interval
abbrev pub WithinEndsIsWithinEach : Type 0
WithinEndsIsWithinEach = (is : List Interval) (e : Interval) (units : ℤ) → AreEnds e is → IsWithin units e ↔ All (IsWithin units) is

-- if a non-empty interval e contains exactly the numbers that lie in each of one or more intervals, e ranges from the greatest
-- low end of these intervals to their least high end
abbrev pub EndsAreCommonInterval : Type 0
EndsAreCommonInterval = (is : List Interval) (e : Interval) → 0 < length is → HasPoints e → ((units : ℤ) → IsWithin units e ↔ All (IsWithin units) is) → AreEnds e is

-- each interval of a list meets each later interval
abbrev pub EachTwoMeet : List Interval → Type 0
EachTwoMeet = AllPairs (λ i j. IsTrue (intervals_meet i j))

-- if no interval is empty, every two intervals meet exactly if the greatest low end is at most the least high end
abbrev pub AllMeetIffEndsMeet : Type 0
AllMeetIffEndsMeet = (is : List Interval) (e : Interval) → All HasPoints is → AreEnds e is → EachTwoMeet is ↔ (e.low ≤ℤ e.high)

-- the interval of a number, as a list of one; other values have none
abbrev pub interval_of_one : Value → List Interval
interval_of_one (Number units decimals) = interval units decimals ∷ []
interval_of_one other = []

abbrev pub intervals_of : List Value → List Interval
intervals_of vs = flat_map interval_of_one vs

abbrev pub has_interval : Value → Bool
has_interval (Number units decimals) = true
has_interval other = false
