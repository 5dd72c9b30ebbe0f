-- The ends of a short number's interval are bounded.
use Rattle.oim_value.proofs.Shared.{ℕ, ◌+◌, ◌-◌, ◌^◌, ◌<◌, ◌≤◌, arith, ℤ, pos, neg_ℤ, ◌-ℤ◌, ◌+ℤ◌, unsigned_abs, Option, Some, None, mul-le-mul_left, leb-true, ints, MOST_DECIMALS, MOST_DIGITS, UNIT_PLACES, half_width, half_zeros}
use Rattle.oim_value.specs.Bounds.{IntervalEndsAreBounded}
use Rattle.oim_value.specs.Decimals.{AreDecimals}
use Rattle.oim_value.proofs.Intervals.{near_from, near_is}
use Rattle.oim_value.proofs.Units.{ten_to, short_bound}

most_zeros : (d : ℤ) → unsigned_abs d ≤ unsigned_abs MOST_DECIMALS → half_zeros d ≤ half_zeros (neg_ℤ MOST_DECIMALS)
most_zeros d few =
    let both = near_is d (unsigned_abs MOST_DECIMALS) few in
    near_from (pos (UNIT_PLACES - 1) -ℤ d) (half_zeros (neg_ℤ MOST_DECIMALS)) (omega (arith, ints)) (omega (arith, ints))

most_width : (decimals : Option ℤ) → AreDecimals decimals → half_width decimals ≤ half_width (Some (neg_ℤ MOST_DECIMALS))
most_width None are = omega arith
most_width (Some d) are =
    let zeros : half_zeros d ≤ half_zeros (neg_ℤ MOST_DECIMALS) = most_zeros d (leb-true (unsigned_abs d) (unsigned_abs MOST_DECIMALS) are) in
    let power : 10 ^ half_zeros d ≤ 10 ^ half_zeros (neg_ℤ MOST_DECIMALS) = ten_to (half_zeros d) (half_zeros (neg_ℤ MOST_DECIMALS)) zeros in
    mul-le-mul_left 5 power

below_by : (x : ℤ) (h n m : ℕ) → unsigned_abs x ≤ n → h ≤ m → unsigned_abs (x -ℤ pos h) ≤ n + m
below_by x h n m near within =
    let both = near_is x n near in
    near_from (x -ℤ pos h) (n + m) (omega (arith, ints)) (omega (arith, ints))

above_by : (x : ℤ) (h n m : ℕ) → unsigned_abs x ≤ n → h ≤ m → unsigned_abs (x +ℤ pos h) ≤ n + m
above_by x h n m near within =
    let both = near_is x n near in
    near_from (x +ℤ pos h) (n + m) (omega (arith, ints)) (omega (arith, ints))

strictly : (a n m : ℕ) → 0 < n → a ≤ n - 1 + m → a < n + m
strictly a n m some h = omega arith

pub interval_ends_are_bounded : IntervalEndsAreBounded
interval_ends_are_bounded units decimals short are =
    let all : ℕ = 10 ^ (MOST_DIGITS + UNIT_PLACES) in
    let most : ℕ = half_width (Some (neg_ℤ MOST_DECIMALS)) in
    let near : unsigned_abs units ≤ all - 1 = omega (arith, short_bound units short) in
    let width : half_width decimals ≤ most = most_width decimals are in
    record {
      low = strictly _ all most (omega arith) (below_by units (half_width decimals) (all - 1) most near width);
      high = strictly _ all most (omega arith) (above_by units (half_width decimals) (all - 1) most near width);
    }
