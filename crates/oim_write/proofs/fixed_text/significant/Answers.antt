use Rattle.oim_write.proofs.Shared.{sym, arith, ◌∙◌, nat_tests}
use Rattle.oim_value.proofs.Numerals.{back, stays, none_left}
use Rattle.oim_write.proofs.fixed_text.significant.Goals as goal

pub loop-end-preserved : goal.loop-end-preserved
loop-end-preserved c = record { within = omega arith; same = back c.args.digits.now c.loop-end.end (omega arith) (omega arith) c.if-digits-end-eq48.true ∙ c.loop-end.invariant.same }

pub returns-after-loop-end-clause-front : goal.returns-after-loop-end-clause-front
returns-after-loop-end-clause-front c = none_left c.args.digits.now c.loop-end.end (omega arith) c.loop-end.invariant.same

pub returns-else-digits-end-eq48-clause-front : goal.returns-else-digits-end-eq48-clause-front
returns-else-digits-end-eq48-clause-front c = sym (stays c.args.digits.now c.loop-end.end (omega arith) (omega arith) (grind (arith, nat_tests))) ∙ c.loop-end.invariant.same
