use Rattle.oim_value.proofs.Shared.{◌≡◌, ◌*◌, ◌^◌, ◌≤◌, ◌∙◌, arith, ap, ints, to_z-of_z, pos, neg_ℤ, Some, w8, w128, to_z, MOST_DECIMALS, half_width, half_zeros}
use Rattle.oim_value.proofs.Units.{ten_to}
use Rattle.oim_value.proofs.interval.half_place.Goals as goal

pub pow-requires : goal.pow-requires
pow-requires c = omega (arith, ten_to c.zeros_of.result (half_zeros (neg_ℤ MOST_DECIMALS)) c.zeros_of.ensures.bound)

pub overflow_mul-result : goal.overflow_mul-result
overflow_mul-result c = rw c.pow.ensures (omega (arith, ten_to c.zeros_of.result (half_zeros (neg_ℤ MOST_DECIMALS)) c.zeros_of.ensures.bound))

pub overflow_cast-result : goal.overflow_cast-result
overflow_cast-result c = rw c.pow.ensures (omega (arith, ints, ten_to c.zeros_of.result (half_zeros (neg_ℤ MOST_DECIMALS)) c.zeros_of.ensures.bound))

pub returns-clause-value : goal.returns-clause-value
returns-clause-value c =
    let small : to_z w128 (5 * 10 ^ c.zeros_of.result) ≡ pos (5 * 10 ^ c.zeros_of.result) = omega (arith, ints, ten_to c.zeros_of.result (half_zeros (neg_ℤ MOST_DECIMALS)) c.zeros_of.ensures.bound) in
    rw c.pow.ensures (small ∙ ap (λ e. pos (5 * 10 ^ e)) (c.zeros_of.ensures.value ∙ ap half_zeros (to_z-of_z w8 c.args.places c.ranges.places)))

pub returns-clause-bound : goal.returns-clause-bound
returns-clause-bound c =
    let small : 5 * 10 ^ c.zeros_of.result ≤ half_width (Some (neg_ℤ MOST_DECIMALS)) = omega (arith, ten_to c.zeros_of.result (half_zeros (neg_ℤ MOST_DECIMALS)) c.zeros_of.ensures.bound) in
    rw (c.zeros_of.ensures.value, ap half_zeros (to_z-of_z w8 c.args.places c.ranges.places)) at small
