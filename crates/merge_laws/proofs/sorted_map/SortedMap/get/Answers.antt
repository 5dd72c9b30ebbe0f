use Rattle.merge_laws.proofs.Shared.{◌≡◌, sym, ap, ◌∙◌, Option, Some, Ok, option_map, found_at, entry_key, value_at}
use Rattle.merge_laws.proofs.Edits.{item_found}
use Rattle.merge_laws.proofs.sorted_map.SortedMap.get.Goals as goal

pub returns-in-Ok : goal.returns-in-Ok
returns-in-Ok g c =
    let at : Ok c.in-Ok.index ≡ found_at g.K.Ord.cmp entry_key c.args.key.now c.self.inside.entries.items = rw (← c.as_slice.ensures.value) c.in-Ok.ensures.index in
    ap (λ (e : g.row.K.Denot × g.row.V.Denot). Some e.1) c.index.ensures
    ∙ sym (ap (λ (a : Option (g.row.K.Denot × g.row.V.Denot)). option_map (λ e. e.1) a) (item_found entry_key g.met.K.Ord.total c.args.key.now c.self.inside.entries.items c.in-Ok.index c.index.result.now c.self.invariant.rises at))
    ∙ ap (value_at g.K.Ord.cmp c.args.key.now) c.self.view_is
