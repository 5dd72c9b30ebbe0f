use Rattle.oim_dims.proofs.Shared.{◌≡◌, ◌+◌, ◌*◌, ◌≤◌, ◌<◌, ◌^◌, ℕ, [], drop, arith, drop_all, digits_value_after, after_lt, digit_here, next_le}
use Rattle.std.proofs.Math.Nat.{pow-le-pow_right}
use Rattle.oim_dims.proofs.moment.number_of.Goals as goal

small : (k v : ℕ) → k ≤ 4 → v < (0 + 1) * 10 ^ k → v < 10000
small k v few h = let p : 10 ^ k ≤ 10 ^ 4 = pow-le-pow_right {n = 10} (omega arith) {i = k} {j = 4} few in omega arith

pub overflow_mul-number : goal.overflow_mul-number
overflow_mul-number c =
    let h = next_le c.loop-c.number c.loop-c.c-index _ c.args.digits.now (omega arith) c.loop-c.invariant.told in
    let top : digits_value_after 10 0 c.args.digits.now < 10000 = small _ _ c.requires.few (after_lt 0 c.args.digits.now c.requires.digits) in omega arith

pub overflow_add-number : goal.overflow_add-number
overflow_add-number c =
    let h = next_le c.loop-c.number c.loop-c.c-index _ c.args.digits.now (omega arith) c.loop-c.invariant.told in
    let top : digits_value_after 10 0 c.args.digits.now < 10000 = small _ _ c.requires.few (after_lt 0 c.args.digits.now c.requires.digits) in
    let d = digit_here c.loop-c.c-index c.args.digits.now (omega arith) c.loop-c.invariant.digits in omega arith

pub returns-clause-bound : goal.returns-clause-bound
returns-clause-bound c =
    let past : drop c.loop-c.c-index c.args.digits.now ≡ [] = drop_all c.loop-c.c-index c.args.digits.now (omega arith) in
    let told : c.loop-c.number ≡ digits_value_after 10 0 c.args.digits.now = rw past at c.loop-c.invariant.told in
    omega (arith, told, after_lt 0 c.args.digits.now c.requires.digits)
