use Rattle.std.proofs.Common.{arith}
use Rattle.oim_value.proofs.Numerals.{digit_here, next_le}
use Rattle.oim_value.proofs.digits.append_digits.Goals as goal

pub overflow_mul-number : goal.overflow_mul-number
overflow_mul-number c = let h = next_le c.loop-c.number c.loop-c.c-index _ c.args.digits.now (omega arith) c.loop-c.invariant.told in omega arith

pub overflow_add-number : goal.overflow_add-number
overflow_add-number c = let h = next_le c.loop-c.number c.loop-c.c-index _ c.args.digits.now (omega arith) c.loop-c.invariant.told in
    let d = digit_here c.loop-c.c-index c.args.digits.now (omega arith) c.loop-c.invariant.digits in omega arith
