use Rattle.oim_value.proofs.Shared.{arith, sym, digits_value_after}
use Rattle.oim_value.proofs.Numerals.{after_append, after_grows, few_digits}
use Rattle.oim_value.proofs.fixed.number_of.Goals as goal

pub append_digits-requires-clause-fits : goal.append_digits-requires-clause-fits
append_digits-requires-clause-fits c =
    omega (arith, few_digits c.args.integer.now c.args.fraction.now c.requires.integer c.requires.fraction c.requires.few, after_grows (digits_value_after 10 0 c.args.integer.now) c.args.fraction.now, after_append 0 c.args.integer.now c.args.fraction.now)

pub append_digits-requires-2-clause-fits : goal.append_digits-requires-2-clause-fits
append_digits-requires-2-clause-fits c =
    rw c.append_digits.ensures (omega (arith, few_digits c.args.integer.now c.args.fraction.now c.requires.integer c.requires.fraction c.requires.few, after_append 0 c.args.integer.now c.args.fraction.now))

pub returns-clause-value : goal.returns-clause-value
returns-clause-value c = rw (c.append_digits-2.ensures, c.append_digits.ensures) (sym (after_append 0 c.args.integer.now c.args.fraction.now))

pub returns-clause-bound : goal.returns-clause-bound
returns-clause-bound c =
    rw (c.append_digits-2.ensures, c.append_digits.ensures) (omega (arith, few_digits c.args.integer.now c.args.fraction.now c.requires.integer c.requires.fraction c.requires.few, after_append 0 c.args.integer.now c.args.fraction.now))
