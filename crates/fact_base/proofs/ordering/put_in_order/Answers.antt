use Rattle.std.proofs.lemmas.List.Filters.{dedup_is}
use Rattle.fact_base.proofs.BuilderLaws.{sorted_once}
use Rattle.fact_base.proofs.ordering.put_in_order.Goals as goal

pub returns-clause-ok : goal.returns-clause-ok
returns-clause-ok g c = sorted_once g.met.T.Ord.total g.met.T.Key.exact g.met.T.Eq.laws g.met.T.Ord.matches_eq c.args.items.now.items c.sort.new.items.items c.dedup.new.self.items c.sort.ensures.permutation c.in_ok-sort.ensures.sorted (dedup_is _ _ _ c.dedup.ensures.filtered)
