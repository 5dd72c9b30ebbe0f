use Rattle.fact_base.proofs.Shared.{arith, fact_cmp}
use Rattle.fact_base.proofs.Placed.{as_many, each_once, picked_moved, picked_sorted}
use Rattle.fact_base.proofs.ordering.in_order.Goals as goal

pub place-requires-clause-len : goal.place-requires-clause-len
place-requires-clause-len c = omega (arith, as_many c.args.facts.items c.args.order.items c.requires.each_once)

pub place-requires-clause-each_once : goal.place-requires-clause-each_once
place-requires-clause-each_once c = each_once c.args.facts.items c.args.order.items c.requires.each_once

pub returns-clause-moved : goal.returns-clause-moved
returns-clause-moved c = picked_moved c.args.facts.items c.place.new.items.items c.args.order.items c.requires.each_once c.place.ensures

pub returns-clause-sorted : goal.returns-clause-sorted
returns-clause-sorted c = picked_sorted c.args.facts.items c.args.order.items c.requires.each_once fact_cmp c.place.new.items.items c.requires.rising c.place.ensures
