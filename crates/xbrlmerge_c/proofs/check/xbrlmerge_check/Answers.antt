use Rattle.std.proofs.Common.{arith}
use Rattle.xbrlmerge_c.proofs.Checked.{accepts, refuses}
use Rattle.xbrlmerge_c.proofs.check.xbrlmerge_check.Goals as goal

pub returns-in-Ok-result_of-clause-done : goal.returns-in-Ok-result_of-clause-done
returns-in-Ok-result_of-clause-done c = λ is. record {
  listed = c.in-Ok.sheet;
  read = c.in-Ok.ensures.ok;
  holds = accepts c.in-Ok.sheet 1 c.args.report.now c.in-Ok-result_of.found c.in-Ok-result_of.ensures (omega arith);
}

pub returns-in-Ok-2-clause-refused : goal.returns-in-Ok-2-clause-refused
returns-in-Ok-2-clause-refused c = λ is. record {
  listed = c.in-Ok.sheet;
  read = c.in-Ok.ensures.ok;
  holds = refuses c.in-Ok.sheet 1 c.args.report.now c.in-Ok-result_of.found c.in-Ok-result_of.ensures (λ e. absurd (omega (arith, e)));
}
