use Rattle.oim_value.proofs.Shared.{sym, arith, ◌∙◌, nat_tests}
use Rattle.oim_value.proofs.Numerals.{back, stays, none_left}
use Rattle.oim_value.proofs.digits.skip_trailing_zeros.Goals as goal
use Rattle.oim_value.proofs.digits.skip_trailing_zeros.Goals.{then-loop-end-test+else-digits-end-eq48, else-loop-end-test}

pub loop-end-preserved : goal.loop-end-preserved
loop-end-preserved c = record { within = omega arith; same = back c.args.digits.now c.loop-end.end (omega arith) (omega arith) c.if-digits-end-eq48.true ∙ c.loop-end.invariant.same }

pub returns : goal.returns
returns c = elim c.loop-end-test.branch [
  | then-loop-end-test+else-digits-end-eq48 w ↦ sym (stays c.args.digits.now c.loop-end.end (omega arith) (omega arith) (grind (arith, nat_tests))) ∙ c.loop-end.invariant.same
  | else-loop-end-test w ↦ none_left c.args.digits.now c.loop-end.end (omega arith) c.loop-end.invariant.same
]
