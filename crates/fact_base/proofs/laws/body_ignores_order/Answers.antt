use Rattle.fact_base.proofs.Bodies.{body_ignores_order}
use Rattle.fact_base.proofs.laws.body_ignores_order.Goals as goal

pub returns : goal.returns
returns c = body_ignores_order
