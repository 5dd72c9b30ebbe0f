-- Conditions under which every two of several different values meet (own).
use Rattle.std.specs.Prelude.{◌≡◌, ◌≢◌, ◌↔◌, ◌⊎◌, ℕ, ◌≤◌, Bool, false, IsTrue, List, length, slice_get, Contains, Some, ℤ, ◌<ℤ◌}
use Rattle.std.specs.List.{All, AllPairs, position_or_len}
use Rattle.std.specs.Ordering.{int_eq}
use Rattle.oim_value.specs.Ends.{AreEnds, intervals_of, has_interval}
use Rattle.oim_value.specs.Interval.{HasPoints, interval}
use Rattle.oim_value.specs.Meets.{Meets}
use Rattle.oim_value.specs.ValueOrder.{kind_order}
use Rattle.oim_value.specs.declared.interval.Interval.{Interval}
use Rattle.oim_value.specs.declared.value.Value.{Value}
use Rattle.oim_value.specs.declared.value.Value.TheVariants.{Nil, Number}

-- each value differs from each later one
abbrev pub AreDifferent : List Value → Type 0
AreDifferent = AllPairs (λ x y. x ≢ y)

-- each value meets each later one
abbrev pub EachTwoValuesMeet : List Value → Type 0
EachTwoValuesMeet = AllPairs Meets

-- each value meets each later one exactly if every two members meet, so order and repeats do not matter
abbrev pub EachTwoMeetByMembers : Type 0
EachTwoMeetByMembers = (vs : List Value) → EachTwoValuesMeet vs ↔ ((x y : Value) → Contains vs x → Contains vs y → Meets x y)

-- each value is nil or of this kind: number, text or name
abbrev pub AreNilOrOfKind : ℕ → List Value → Type 0
AreNilOrOfKind kind = All (λ v. (v ≡ Nil) ⊎ (kind_order v ≡ kind))

-- no value is nil, and the interval e from the greatest low end to the least high end is not empty
pub record MeetBetween (vs : List Value) (e : Interval) : Type 0 where
  pub no_nil : Contains vs Nil → ⊥
  pub ends : AreEnds e (intervals_of vs)
  pub points : HasPoints e

-- different values meet only if both are numbers
abbrev pub DifferentMeetAsNumbers : Type 0
DifferentMeetAsNumbers = (x y : Value) → x ≢ y → Meets x y → IsTrue (has_interval x) × IsTrue (has_interval y)

-- take two or more different values; all that are not nil are of one kind. Every two of them meet exactly if no value is nil
-- and the interval between the ends is not empty
abbrev pub DifferentMeetBetweenEnds : Type 0
DifferentMeetBetweenEnds = (kind : ℕ) (vs : List Value) → 2 ≤ length vs → AreDifferent vs → AreNilOrOfKind kind vs → EachTwoValuesMeet vs ↔ ((e : Interval) × MeetBetween vs e)

-- the value is a number whose interval has this low end
abbrev pub has_low : ℤ → Value → Bool
has_low z (Number units decimals) = int_eq (interval units decimals).low z
has_low z other = false

abbrev pub has_high : ℤ → Value → Bool
has_high z (Number units decimals) = int_eq (interval units decimals).high z
has_high z other = false

-- the index of the first value whose interval has the same low end as e, or the length if there is none
abbrev pub index_of_greatest_low : Interval → List Value → ℕ
index_of_greatest_low e = position_or_len (has_low e.low)

-- the index of the first value whose interval has the same high end as e, or the length if there is none
abbrev pub index_of_least_high : Interval → List Value → ℕ
index_of_least_high e = position_or_len (has_high e.high)

-- there are values at both indices, and they do not meet
pub record AreApart (vs : List Value) (i j : ℕ) : Type 0 where
  pub first : Value
  pub second : Value
  pub first_there : slice_get vs i ≡ Some first
  pub second_there : slice_get vs j ≡ Some second
  pub apart : Meets first second → ⊥

-- take the first value with the greatest low end, and the first with the least high end; they do not meet if this low end is
-- above this high end
abbrev pub CrossedEndsAreApart : Type 0
CrossedEndsAreApart = (vs : List Value) (e : Interval) → AreEnds e (intervals_of vs) → e.high <ℤ e.low → AreApart vs (index_of_least_high e vs) (index_of_greatest_low e vs)
