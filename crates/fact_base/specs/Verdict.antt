-- Whether the facts of a dimension set contradict each other (XBRL working group note on duplicate facts; the evidence is own).
use Rattle.std.specs.Prelude.{◌≡◌, ◌↔◌, ℕ, ◌≤◌, Bool, true, false, ◌&&◌, List, [], ◌∷◌, length, Option, Some, None, if◌then◌else◌, Contains, ℤ}
use Rattle.std.specs.List.{All, list_all}
use Rattle.oim_value.specs.Ends.{AreEnds, has_interval, intervals_of}
use Rattle.oim_value.specs.Interval.{HasPoints, IsWithin}
use Rattle.oim_value.specs.Meets.{Meets}
use Rattle.oim_value.specs.SeveralMeet.{AreApart, EachTwoValuesMeet, index_of_greatest_low, index_of_least_high}
use Rattle.oim_value.specs.declared.interval.Interval.{Interval}
use Rattle.oim_value.specs.declared.value.Value.{Value}
use Rattle.oim_dims.specs.DimensionSet.{DimensionSet}
use Rattle.oim_dims.specs.declared.fact.Fact.{Fact}
use Rattle.oim_report.specs.Duplicates.{values_meet}
use Rattle.fact_base.specs.Rows.{values_at}
use Rattle.fact_base.specs.declared.evidence.Evidence.{Evidence}
use Rattle.fact_base.specs.declared.evidence.Evidence.TheVariants.{Alike, Common, Apart}
use Rattle.fact_base.specs.declared.verdict.Verdict.{Verdict}
use Rattle.fact_base.specs.declared.verdict.Verdict.TheVariants.{Complete, Consistent, Inconsistent}

-- ---- verdicts

-- each value meets each later one
abbrev pub each_meet : List Value → Bool
each_meet [] = true
each_meet (v ∷ vs) = list_all (values_meet v) vs && each_meet vs

-- None if there is no value; `Complete` if there is one; with several values, `Consistent` if every two of them meet, otherwise
-- `Inconsistent`
abbrev pub verdict_of : List Value → Option Verdict
verdict_of [] = None
verdict_of (v ∷ []) = Some Complete
verdict_of (v ∷ w ∷ vs) = Some (if each_meet (v ∷ w ∷ vs) then Consistent else Inconsistent)

-- the verdict on the facts with these dimensions, or None if no fact has them
abbrev pub verdict : List Fact → DimensionSet → Option Verdict
verdict facts s = verdict_of (values_at s facts)

-- the verdict on a dimension set is `Inconsistent` exactly if two of its values do not meet
abbrev pub InconsistentIsApart : Type 0
InconsistentIsApart =
    (facts : List Fact) (s : DimensionSet) →
    (verdict facts s ≡ Some Inconsistent) ↔ ((v w : Value) × (Contains (values_at s facts) v × (Contains (values_at s facts) w × ¬ (Meets v w))))

-- ---- evidence

-- there are several values, and every two meet; the interval is not empty, and contains exactly the numbers that lie in the
-- interval of every value that has one
pub record IsCommonOf (vs : List Value) (common : Interval) : Type 0 where
  pub several : 2 ≤ length vs
  pub each : EachTwoValuesMeet vs
  pub points : HasPoints common
  pub within : (units : ℤ) → IsWithin units common ↔ All (IsWithin units) (intervals_of vs)

-- the first two values are numbers; in a row, no later value is then nil, because values ascend and nil is the least value
abbrev pub begin_with_numbers : List Value → Bool
begin_with_numbers (v ∷ w ∷ vs) = has_interval v && has_interval w
begin_with_numbers other = false

-- the two indices that are shown for several values. If the first two values are numbers, i is the index of the first
-- value whose interval has the least high end, and j is the index of the first value whose interval has the greatest low
-- end. Otherwise, i is 0 and j is 1.
abbrev pub IsPairOf : Bool → List Value → ℕ → ℕ → Type 0
IsPairOf true vs i j = (ends : Interval) → AreEnds ends (intervals_of vs) → (i ≡ index_of_least_high ends vs) × (j ≡ index_of_greatest_low ends vs)
IsPairOf false vs i j = (i ≡ 0) × (j ≡ 1)

abbrev pub IsShownPair : List Value → ℕ → ℕ → Type 0
IsShownPair vs = IsPairOf (begin_with_numbers vs) vs

-- i and j are the shown indices, and the values at these indices do not meet
pub record IsApartPair (vs : List Value) (i j : ℕ) : Type 0 where
  pub shown : IsShownPair vs i j
  pub apart : AreApart vs i j

-- the evidence is true of these values; a reader can check their verdict with it by hand
abbrev pub IsEvidence : List Value → Evidence → Type 0
IsEvidence vs Alike = length vs ≡ 1
IsEvidence vs (Common common) = IsCommonOf vs common
IsEvidence vs (Apart i j) = IsApartPair vs i j
