use Rattle.fact_base.proofs.Shared.{ap, ◌∙◌, set_of}
use Rattle.fact_base.proofs.BuilderLaws.{set_of_set}
use Rattle.fact_base.proofs.ordering.settle.Goals as goal

pub returns-in_ok-put_in_order : goal.returns-in_ok-put_in_order
returns-in_ok-put_in_order g c = ap (set_of g.T.Ord.cmp) c.in_ok-put_in_order.ensures.ok ∙ set_of_set g.met.T.Ord.total g.met.T.Key.exact c.args.items.now.items
