use Rattle.merge_laws.proofs.Shared.{◌∷◌, [], ◌-◌, ◌++◌, ap, sym, ◌∙◌, arith, reverse, reverse-append}
use Rattle.merge_laws.proofs.Listed.{none_counted, range_down}
use Rattle.merge_laws.proofs.insertion.count_down.Goals as goal

pub loop-low-init : goal.loop-low-init
loop-low-init c = record {
  first = c.requires.top;
  below = omega arith;
  reached = omega arith;
  listed = none_counted (c.args.top - c.args.first) (c.args.top - c.args.top) (reverse c.args.order.now.items) (omega arith);
  count = omega arith;
  storage = omega arith;
}

pub loop-low-preserved : goal.loop-low-preserved
loop-low-preserved c =
    let l = c.loop-low in
    let next = l.low - 1 - c.args.first in
    record {
      first = omega (arith, l.invariant.first, c.requires.index, c.loop-low-test.true);
      below = omega (arith, l.invariant.below);
      reached = omega (arith, l.invariant.reached, c.loop-low-test.true);
      listed =
          ap reverse c.push_reserved.ensures.items
          ∙ reverse-append l.order.items (next ∷ [])
          ∙ ap (λ ks. next ∷ ks) l.invariant.listed
          ∙ ap (λ ks. ks ++ reverse c.args.order.now.items) (sym (range_down next (l.low - c.args.first) (c.args.top - (l.low - 1)) (c.args.top - l.low) (omega (arith, c.requires.index, c.loop-low-test.true)) (omega (arith, l.invariant.below, c.loop-low-test.true))));
      count = omega (arith, l.invariant.count, c.push_reserved.ensures.len, c.loop-low-test.true);
      storage = omega (arith, l.invariant.storage, c.push_reserved.ensures.capacity);
    }

pub returns-clause-order : goal.returns-clause-order
returns-clause-order c = c.loop-low.invariant.listed
