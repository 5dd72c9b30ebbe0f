use Rattle.fact_base.proofs.Shared.{◌≡◌, ◌+◌, List, ◌∷◌, Some, map, drop, sym, ap, ◌∙◌, slice_get, option_map, Value, Entry, row_of}
use Rattle.fact_base.proofs.rows.RowsIterator.next.Goals as goal
use Rattle.fact_base.proofs.Walks.{next_drop}

pub returns-clause-steps : goal.returns-clause-steps
returns-clause-steps c =
    let e : Entry = (c.in_ok-dimensions.dimensions.now, c.in_ok-dimensions.field-0-1.now) in
    let at : slice_get c.args.self.now.entries.now c.args.self.now.next ≡ Some e = sym c.at.ensures ∙ ap (option_map (λ p. (p.0.now, p.1.now))) c.in_ok-dimensions.was in
    ap (map row_of) (next_drop c.args.self.now.entries.now c.args.self.now.next e at)
    ∙ ap (λ (vs : List Value). (e.0, vs) ∷ map row_of (drop (c.args.self.now.next + 1) c.args.self.now.entries.now)) (sym c.as_slice.ensures.items)
