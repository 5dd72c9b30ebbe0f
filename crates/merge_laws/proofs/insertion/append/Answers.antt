use Rattle.merge_laws.proofs.Shared.{◌≡◌, ◌-◌, ◌≤◌, ◌++◌, ◌∷◌, [], ap, length, refl, subst, ◌∙◌, IsPermutation, arith, vec_len, nil_from_length, reverse, range_with_len, first_index}
use Rattle.merge_laws.proofs.Listed.{all_listed, down_once, last_least, none_listed, one_listed}
use Rattle.merge_laws.proofs.insertion.append.Goals as goal

pub loop-index-init : goal.loop-index-init
loop-index-init g c = record {
  listed = none_listed c.args.first c.len-top.result c.args.items.now.items c.args.news.items c.args.order.now.items (omega arith) c.requires.empty;
  low = omega (arith, c.requires.first);
  least = c.requires.least;
  together = refl;
  below = omega arith;
  count = omega (arith, ap length c.requires.empty);
  storage = refl;
  kept = refl;
}

pub count_down-top-requires-clause-index : goal.count_down-top-requires-clause-index
count_down-top-requires-clause-index g c =
    let l = c.loop-index in
    let least = last_least (first_index (vec_len c.args.items.now) c.args.news.items) l.news.items c.pop.new.self.items c.in-Some.index c.in-Some.item c.in-Some.ensures.items l.invariant.least in
    omega (arith, least.0, c.requires.first)

pub count_down-top-requires-clause-order : goal.count_down-top-requires-clause-order
count_down-top-requires-clause-order g c =
    let l = c.loop-index in
    let least = last_least (first_index (vec_len c.args.items.now) c.args.news.items) l.news.items c.pop.new.self.items c.in-Some.index c.in-Some.item c.in-Some.ensures.items l.invariant.least in
    omega (arith, least.0, c.requires.first, c.requires.order, l.invariant.count, l.invariant.together, l.invariant.storage, l.invariant.low, l.invariant.below)

pub push_reserved-requires : goal.push_reserved-requires
push_reserved-requires g c =
    let l = c.loop-index in
    let least = last_least (first_index (vec_len c.args.items.now) c.args.news.items) l.news.items c.pop.new.self.items c.in-Some.index c.in-Some.item c.in-Some.ensures.items l.invariant.least in
    omega (arith, least.0, c.requires.first, c.requires.order, l.invariant.count, l.invariant.together, l.invariant.storage, l.invariant.low, l.invariant.below, c.in-Some.ensures.cases, c.count_down-top.ensures.len, c.count_down-top.ensures.storage)

pub loop-index-preserved : goal.loop-index-preserved
loop-index-preserved g c =
    let l = c.loop-index in
    let least = last_least (first_index (vec_len c.args.items.now) c.args.news.items) l.news.items c.pop.new.self.items c.in-Some.index c.in-Some.item c.in-Some.ensures.items l.invariant.least in
    let from : c.args.first ≤ c.in-Some.index = omega (arith, least.0, c.requires.first) in
    let others = c.count_down-top.new.order.items in
    let at : c.len.result - c.args.first ≡ length l.items.items - c.args.first = omega arith in
    record {
      listed =
          one_listed l.invariant.listed l.invariant.low c.count_down-top.result c.in-Some.index others from c.count_down-top.ensures.result c.count_down-top.ensures.order c.in-Some.item c.pop.new.self.items c.push_reserved-in-Some.new.self.items c.push_reserved.new.self.items
          c.in-Some.ensures.items c.push_reserved-in-Some.ensures.items (c.push_reserved.ensures.items ∙ ap (λ n. others ++ n ∷ []) at);
      low = omega (arith, from, c.count_down-top.ensures.result, l.invariant.low);
      least = least.1;
      together = omega (arith, l.invariant.together, c.push_reserved-in-Some.ensures.len, c.in-Some.ensures.cases);
      below = omega (arith, l.invariant.below, c.count_down-top.ensures.result);
      count = omega (arith, l.invariant.count, c.push_reserved.ensures.len, c.count_down-top.ensures.len, c.count_down-top.ensures.result, c.push_reserved-in-Some.ensures.len);
      storage = c.push_reserved.ensures.capacity ∙ c.count_down-top.ensures.storage ∙ l.invariant.storage;
      kept = c.push_reserved-in-Some.ensures.capacity ∙ l.invariant.kept;
    }

pub returns-clause-items : goal.returns-clause-items
returns-clause-items g c =
    let l = c.loop-index in
    let first = c.args.first in
    let is : c.count_down-first.result ≡ first = omega (arith, c.count_down-first.ensures.result, l.invariant.low) in
    all_listed l.invariant.listed l.invariant.low c.count_down-first.new.order.items
    (nil_from_length l.news.items (omega (arith, c.in_default.ensures.cases)))
    (c.count_down-first.ensures.order ∙ ap (λ to. range_with_len (to - first) (l.top - to) ++ reverse l.order.items) is)

pub returns-clause-each_once : goal.returns-clause-each_once
returns-clause-each_once g c =
    let l = c.loop-index in
    let first = c.args.first in
    let to = c.count_down-first.result in
    let others = c.count_down-first.new.order.items in
    let start : to - first ≡ 0 = omega (arith, c.count_down-first.ensures.result, l.invariant.low) in
    let long : length l.items.items - to ≡ length l.items.items - first = omega (arith, c.count_down-first.ensures.result, l.invariant.low) in
    subst (λ r. IsPermutation r (reverse others)) (λ i. range_with_len (start i) (long i))
    (down_once l.invariant.listed l.invariant.low to first others (omega arith) c.count_down-first.ensures.result c.count_down-first.ensures.order)
