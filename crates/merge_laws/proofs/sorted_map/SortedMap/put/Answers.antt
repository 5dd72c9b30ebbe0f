use Rattle.merge_laws.proofs.Shared.{◌≡◌, ◌<◌, length, sym, ap, subst, ◌∙◌, Ok, Err, found_at, IsMap, entry_key, map_with, merged_entries, on_ok_weaker}
use Rattle.merge_laws.proofs.Edits.{put_in}
use Rattle.merge_laws.proofs.Puts.{put_there, put_map, merged_there}
use Rattle.merge_laws.proofs.sorted_map.SortedMap.put.Goals as goal

pub invariant_of-self : goal.invariant_of-self
invariant_of-self g c =
    let at : Ok c.in-Ok.index ≡ found_at g.K.Ord.cmp entry_key c.args.key.now c.self.inside.entries.items = rw (← c.as_slice.ensures.value) c.in-Ok.ensures.index in
    let within : c.in-Ok.index < length c.self.inside.entries.items = rw (← c.as_slice.ensures.value) c.in-Ok.ensures.bound in
    merged_there g.met.K.Ord.total g.V.Merge.is_known g.V.Merge.merged c.merge.result c.self.inside.entries.items c.args.key.now c.args.value.now c.merge.new.self c.in-Ok.index c.index_mut.result.now
    g.met.V.Merge.closed c.self.invariant c.known.ensures at within c.index_mut.ensures.value c.merge.ensures.ok c.merge.ensures.err

pub returns-in-Ok-clause-ok : goal.returns-in-Ok-clause-ok
returns-in-Ok-clause-ok g c =
    let at : Ok c.in-Ok.index ≡ found_at g.K.Ord.cmp entry_key c.args.key.now c.self.inside.entries.items = rw (← c.as_slice.ensures.value) c.in-Ok.ensures.index in
    on_ok_weaker c.merge.result (λ made.
    put_there g.met.K.Ord.total g.V.Merge.is_known g.V.Merge.merged c.self.inside.entries.items c.args.key.now c.args.value.now c.merge.new.self c.in-Ok.index c.index_mut.result.now c.self.invariant.rises at c.index_mut.ensures.value made
    ∙ ap (map_with g.K.Ord.cmp g.V.Merge.merged c.args.key.now c.args.value.now) c.self.view_is) c.merge.ensures.ok

added : (g : _) (c : goal.In_ok-insert-in-Err g) → c.insert.new.self.items ≡ map_with g.K.Ord.cmp g.V.Merge.merged c.args.key.now c.args.value.now c.self.inside.entries.items
added g c =
    let at : Err c.in-Err.index ≡ found_at g.K.Ord.cmp entry_key c.args.key.now c.self.inside.entries.items = rw (← c.as_slice.ensures.value) c.in-Err.ensures.index in
    put_in entry_key g.met.K.Ord.total (merged_entries g.V.Merge.merged) c.self.inside.entries.items c.insert.new.self.items (c.args.key.now, c.args.value.now) _ c.in-Err.index at
    (λ i. (c.in_ok-copied-in-Err.ensures i, c.in_ok-copied-in-Err-2.ensures i)) c.in_ok-insert-in-Err.ensures.items

pub invariant_of-self-in-Err : goal.invariant_of-self-in-Err
invariant_of-self-in-Err g c = subst (IsMap g.K.Ord.cmp g.V.Merge.is_known) (sym (added g c)) (put_map g.met.K.Ord.total g.V.Merge.is_known g.V.Merge.merged g.met.V.Merge.closed c.self.inside.entries.items c.args.key.now c.args.value.now c.self.invariant c.known.ensures)

pub returns-in_ok-insert-in-Err-clause-ok : goal.returns-in_ok-insert-in-Err-clause-ok
returns-in_ok-insert-in-Err-clause-ok g c = added g c ∙ ap (map_with g.K.Ord.cmp g.V.Merge.merged c.args.key.now c.args.value.now) c.self.view_is
