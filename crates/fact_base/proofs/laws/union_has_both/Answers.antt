use Rattle.fact_base.proofs.Bodies.{union_has_both}
use Rattle.fact_base.proofs.laws.union_has_both.Goals as goal

pub returns : goal.returns
returns c = union_has_both
