-- Laws of rounding intervals.
use Rattle.oim_value.proofs.Shared.{◌≡◌, ℕ, ◌+◌, ◌-◌, ◌*◌, ◌^◌, ◌≤◌, ap, sym, ◌∙◌, arith, ℤ, pos, negsuc, neg_ℤ, ◌-ℤ◌, ◌≤ℤ◌, int_le, unsigned_abs, IsTrue, int_max, int_min, ints, clamps, pow-add, Interval, UNIT_PLACES, half_width, half_zeros, intervals_meet, HalfAfterPoint, HalfBeforePoint, IntervalHasNumber, IntervalHasPoints, WithinIsNear, CommonIsAssociative, CommonIsCommutative, CommonIsIdempotent, CommonIsBoth, MeetsByCommonPoint, MeetsByCommonPart, and_parts}
use Rattle.oim_value.proofs.Ends.{le_from, le_to}

-- ---- half a place

left_over : (n d : ℕ) → d ≤ n → pos n -ℤ pos d ≡ pos (n - d)
left_over n d h = omega (arith, ints)

further : (n d : ℕ) → pos n -ℤ neg_ℤ (pos d) ≡ pos (n + d)
further n d = omega (arith, ints)

tenfold : (x y z : ℕ) → x * y ≡ z → 2 * (5 * x) * y ≡ 10 * z
tenfold x y z e = rw (← e) (omega arith)

pub half_after_point : HalfAfterPoint
half_after_point d h =
    let zeros : half_zeros (pos d) ≡ UNIT_PLACES - 1 - d = ap unsigned_abs (left_over (UNIT_PLACES - 1) d (omega arith)) in
    let whole : UNIT_PLACES - 1 - d + d ≡ UNIT_PLACES - 1 = omega arith in
    let all : 10 ^ (UNIT_PLACES - 1 - d) * 10 ^ d ≡ 10 ^ (UNIT_PLACES - 1) = sym (pow-add 10 (UNIT_PLACES - 1 - d) d) ∙ ap (λ k. 10 ^ k) whole in
    rw zeros (tenfold (10 ^ (UNIT_PLACES - 1 - d)) (10 ^ d) (10 ^ (UNIT_PLACES - 1)) all)

moved : (x y : ℕ) → 2 * (5 * (x * y)) ≡ 10 * x * y
moved x y = omega arith

pub half_before_point : HalfBeforePoint
half_before_point d =
    let zeros : half_zeros (neg_ℤ (pos d)) ≡ UNIT_PLACES - 1 + d = ap unsigned_abs (further (UNIT_PLACES - 1) d) in
    rw (zeros, pow-add 10 (UNIT_PLACES - 1) d) (moved (10 ^ (UNIT_PLACES - 1)) (10 ^ d))

-- ---- the interval of a number

pub near_is : (x : ℤ) (h : ℕ) → unsigned_abs x ≤ h → (neg_ℤ (pos h) ≤ℤ x) × (x ≤ℤ pos h)
near_is (pos n) h near = (omega (arith, ints), omega (arith, ints))
near_is (negsuc n) h near = (omega (arith, ints), omega (arith, ints))

pub near_from : (x : ℤ) (h : ℕ) → neg_ℤ (pos h) ≤ℤ x → x ≤ℤ pos h → unsigned_abs x ≤ h
near_from (pos n) h low high = omega (arith, ints)
near_from (negsuc n) h low high = omega (arith, ints)

pub within_is_near : WithinIsNear
within_is_near z units decimals = (
  λ p. near_from (z -ℤ units) (half_width decimals) (omega (arith, ints)) (omega (arith, ints)),
  λ near. let both = near_is (z -ℤ units) (half_width decimals) near in record { above = omega (arith, ints); below = omega (arith, ints) },
)

pub interval_has_number : IntervalHasNumber
interval_has_number units decimals = record { above = omega (arith, ints); below = omega (arith, ints) }

pub interval_has_points : IntervalHasPoints
interval_has_points units decimals = omega (arith, ints)

-- ---- common parts

max_assoc : (x y z : ℤ) → int_max (int_max x y) z ≡ int_max x (int_max y z)
max_assoc x y z = omega (arith, ints, clamps)

min_assoc : (x y z : ℤ) → int_min (int_min x y) z ≡ int_min x (int_min y z)
min_assoc x y z = omega (arith, ints, clamps)

max_comm : (x y : ℤ) → int_max x y ≡ int_max y x
max_comm x y = omega (arith, ints, clamps)

min_comm : (x y : ℤ) → int_min x y ≡ int_min y x
min_comm x y = omega (arith, ints, clamps)

max_same : (x : ℤ) → int_max x x ≡ x
max_same x = omega (arith, ints, clamps)

min_same : (x : ℤ) → int_min x x ≡ x
min_same x = omega (arith, ints, clamps)

pub common_is_associative : CommonIsAssociative
common_is_associative a b c = λ i. record { low = max_assoc a.low b.low c.low i; high = min_assoc a.high b.high c.high i }

pub common_is_commutative : CommonIsCommutative
common_is_commutative a b = λ i. record { low = max_comm a.low b.low i; high = min_comm a.high b.high i }

pub common_is_idempotent : CommonIsIdempotent
common_is_idempotent a = λ i. record { low = max_same a.low i; high = min_same a.high i }

max_below : (x y z : ℤ) → x ≤ℤ z → y ≤ℤ z → int_max x y ≤ℤ z
max_below x y z p q = omega (arith, ints, clamps)

min_above : (x y z : ℤ) → z ≤ℤ x → z ≤ℤ y → z ≤ℤ int_min x y
min_above x y z p q = omega (arith, ints, clamps)

under_max : (x y z : ℤ) → int_max x y ≤ℤ z → (x ≤ℤ z) × (y ≤ℤ z)
under_max x y z p = (omega (arith, ints, clamps), omega (arith, ints, clamps))

over_min : (x y z : ℤ) → z ≤ℤ int_min x y → (z ≤ℤ x) × (z ≤ℤ y)
over_min x y z p = (omega (arith, ints, clamps), omega (arith, ints, clamps))

pub common_is_both : CommonIsBoth
common_is_both units a b = (
  λ h.
      let low = under_max a.low b.low units h.above in
      let high = over_min a.high b.high units h.below in
      (record { above = low.0; below = high.0 }, record { above = low.1; below = high.1 }),
  λ (p, q). record { above = max_below a.low b.low units p.above q.above; below = min_above a.high b.high units p.below q.below },
)

-- ---- meeting

pub meet_is : (a b : Interval) → IsTrue (intervals_meet a b) → (a.low ≤ℤ b.high) × (b.low ≤ℤ a.high)
meet_is a b h =
    let both = and_parts (int_le a.low b.high) (int_le b.low a.high) h in
    (le_from a.low b.high both.0, le_from b.low a.high both.1)

pub meet_from : (a b : Interval) → a.low ≤ℤ b.high → b.low ≤ℤ a.high → IsTrue (intervals_meet a b)
meet_from a b p q = rw (le_to a.low b.high p) (le_to b.low a.high q)

max_at_most_min : (a b c d : ℤ) → a ≤ℤ b → c ≤ℤ d → a ≤ℤ d → c ≤ℤ b → int_max a c ≤ℤ int_min b d
max_at_most_min a b c d p q r s = min_above b d (int_max a c) (max_below a c b p s) (max_below a c d r q)

through : (x y z : ℤ) → x ≤ℤ y → y ≤ℤ z → x ≤ℤ z
through x y z p q = omega (arith, ints)

pub meets_by_common_part : MeetsByCommonPart
meets_by_common_part a b pa pb = (
  λ h. let m = meet_is a b h in max_at_most_min a.low a.high b.low b.high pa pb m.0 m.1,
  λ h.
      let high = over_min a.high b.high (int_max a.low b.low) h in
      let first = under_max a.low b.low b.high high.1 in
      let second = under_max a.low b.low a.high high.0 in
      meet_from a b first.0 second.1,
)

pub meets_by_common_point : MeetsByCommonPoint
meets_by_common_point a b pa pb = (
  λ h.
      let both = (common_is_both (int_max a.low b.low) a b).0 (record { above = omega (arith, ints); below = (meets_by_common_part a b pa pb).0 h }) in
      (int_max a.low b.low, record { first = both.0; second = both.1 }),
  λ (z, p). meet_from a b (through a.low z b.high p.first.above p.second.below) (through b.low z a.high p.second.above p.first.below),
)
