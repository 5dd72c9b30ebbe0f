use Rattle.fact_base.proofs.Bodies.{body_of_both}
use Rattle.fact_base.proofs.laws.body_of_both.Goals as goal

pub returns : goal.returns
returns c = body_of_both
