use Rattle.std.proofs.Common.{sym, ap, ◌∙◌}
use Rattle.merge_laws.proofs.Indices.{found_behind, less}
use Rattle.merge_laws.proofs.search.find.Goals as goal

pub returns-in-Some-clause-index : goal.returns-in-Some-clause-index
returns-in-Some-clause-index g c =
    let some = c.in-Some.ensures.item.3 in
    found_behind g.E.Keyed.key_of g.met.K.Ord.total c.args.items.now c.args.key.now c.in-Some.last.now c.requires some.0 some.1
    (ap (λ k. g.K.Ord.cmp k c.args.key.now) (sym c.key.ensures) ∙ sym c.cmp.ensures ∙ less _ c.if-is_lt.ensures)
