use Rattle.fact_base.proofs.Shared.{All, Contains, sym, subst, ◌∙◌, arith, take_all, All-more}
use Rattle.fact_base.proofs.Stored.{found_there}
use Rattle.fact_base.proofs.ordering.has_all.Goals as goal

pub loop-other-preserved : goal.loop-other-preserved
loop-other-preserved g c =
    let l = c.loop-other in
    All-more (Contains c.args.items.now) c.args.others.now l.other-index c.other-item.result (omega arith) l.invariant
    (subst (Contains c.args.items.now) c.other-item.is
    (found_there g.met.T.Key.exact c.args.items.now c.other-item.result c.binary_search.result (sym c.is_err.ensures.value ∙ c.if-is_err.false) c.binary_search.ensures.bound c.binary_search.ensures.ok))

pub returns : goal.returns
returns g c = λ _. subst (All (Contains c.args.items.now)) (take_all c.loop-other.other-index c.args.others.now (omega arith)) c.loop-other.invariant
