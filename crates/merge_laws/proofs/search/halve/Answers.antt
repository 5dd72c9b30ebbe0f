use Rattle.std.proofs.Common.{◌+◌, ◌-◌, ◌/◌, ◌<◌, sym, ap, ◌∙◌, arith, length}
use Rattle.merge_laws.proofs.Indices.{found_here, found_gap, less_before, greater_after}
use Rattle.merge_laws.proofs.search.halve.Goals as goal

pub loop-low-preserved-in-Less : goal.loop-low-preserved-in-Less
loop-low-preserved-in-Less g c =
    let l = c.loop-low in
    let middle = l.low + (l.high - l.low) / 2 in
    let within : middle < length c.args.items.now = omega (arith, c.loop-low-test.true, l.invariant.within) in
    let read = ap (λ e. g.K.Ord.cmp (g.E.Keyed.key_of e) c.args.key.now) (sym c.index-items-middle.is) ∙ ap (λ k. g.K.Ord.cmp k c.args.key.now) (sym c.key.ensures) ∙ sym c.in-Less.ensures in
    record {
      order = omega (arith, c.loop-low-test.true);
      within = l.invariant.within;
      below = λ j d _ lt. less_before g.E.Keyed.key_of g.met.K.Ord.total c.args.items.now c.args.key.now middle c.index-items-middle.result c.requires.rises within read j d lt;
      above = l.invariant.above;
    }

pub returns-in-Equal-clause-index : goal.returns-in-Equal-clause-index
returns-in-Equal-clause-index g c =
    let l = c.loop-low in
    let middle = l.low + (l.high - l.low) / 2 in
    let within : middle < length c.args.items.now = omega (arith, c.loop-low-test.true, l.invariant.within) in
    found_here g.E.Keyed.key_of g.met.K.Ord.total c.args.items.now c.args.key.now middle c.index-items-middle.result c.requires.rises within
    (ap (λ e. g.K.Ord.cmp (g.E.Keyed.key_of e) c.args.key.now) (sym c.index-items-middle.is) ∙ ap (λ k. g.K.Ord.cmp k c.args.key.now) (sym c.key.ensures) ∙ sym c.in-Equal.ensures)

pub loop-low-preserved : goal.loop-low-preserved
loop-low-preserved g c =
    let l = c.loop-low in
    let middle = l.low + (l.high - l.low) / 2 in
    let within : middle < length c.args.items.now = omega (arith, c.loop-low-test.true, l.invariant.within) in
    record {
      order = omega arith;
      within = omega (arith, within);
      below = l.invariant.below;
      above = greater_after g.E.Keyed.key_of g.met.K.Ord.total c.args.items.now c.args.key.now middle c.index-items-middle.result c.requires.rises within
          (ap (λ e. g.K.Ord.cmp (g.E.Keyed.key_of e) c.args.key.now) (sym c.index-items-middle.is) ∙ ap (λ k. g.K.Ord.cmp k c.args.key.now) (sym c.key.ensures) ∙ sym c.in-Greater.ensures);
    }

pub returns-clause-index : goal.returns-clause-index
returns-clause-index g c =
    let l = c.loop-low in
    found_gap g.E.Keyed.key_of g.met.K.Ord.total c.args.items.now c.args.key.now l.low (omega (arith, l.invariant.order, l.invariant.within)) (λ j d lt. l.invariant.below j d (omega arith) lt)
    (λ j d ge lt. l.invariant.above j d (omega (arith, ge, c.loop-low-test.false)) lt)
