use Rattle.std.proofs.Common.{◌+◌, ◌<◌, sym, ap, ◌∙◌, arith, length}
use Rattle.merge_laws.proofs.Indices.{found_here, less_before, greater_after}
use Rattle.merge_laws.proofs.search.find_from.Goals as goal

pub returns-in-Equal-clause-index : goal.returns-in-Equal-clause-index
returns-in-Equal-clause-index g c =
    let l = c.loop-step in
    let within : l.low + l.step < length c.args.items.now = omega (arith, c.loop-step-test.true, l.invariant.within) in
    found_here g.E.Keyed.key_of g.met.K.Ord.total c.args.items.now c.args.key.now (l.low + l.step) c.index-items-probe.result c.requires.rises within
    (ap (λ e. g.K.Ord.cmp (g.E.Keyed.key_of e) c.args.key.now) (sym c.index-items-probe.is) ∙ ap (λ k. g.K.Ord.cmp k c.args.key.now) (sym c.key.ensures) ∙ sym c.in-Equal.ensures)

pub halve-requires-clause-above : goal.halve-requires-clause-above
halve-requires-clause-above g c =
    let l = c.loop-step in
    let within : l.low + l.step < length c.args.items.now = omega (arith, c.loop-step-test.true, l.invariant.within) in
    greater_after g.E.Keyed.key_of g.met.K.Ord.total c.args.items.now c.args.key.now (l.low + l.step) c.index-items-probe.result c.requires.rises within
    (ap (λ e. g.K.Ord.cmp (g.E.Keyed.key_of e) c.args.key.now) (sym c.index-items-probe.is) ∙ ap (λ k. g.K.Ord.cmp k c.args.key.now) (sym c.key.ensures) ∙ sym c.in-Greater.ensures)

pub loop-step-preserved : goal.loop-step-preserved
loop-step-preserved g c =
    let l = c.loop-step in
    let within : l.low + l.step < length c.args.items.now = omega (arith, c.loop-step-test.true, l.invariant.within) in
    let read = ap (λ e. g.K.Ord.cmp (g.E.Keyed.key_of e) c.args.key.now) (sym c.index-items-probe.is) ∙ ap (λ k. g.K.Ord.cmp k c.args.key.now) (sym c.key.ensures) ∙ sym c.in-Less.ensures in
    record {
      within = omega (arith, within);
      below = λ j d _ lt. less_before g.E.Keyed.key_of g.met.K.Ord.total c.args.items.now c.args.key.now (l.low + l.step) c.index-items-probe.result c.requires.rises within read j d lt;
    }
