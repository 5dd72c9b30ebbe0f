use Rattle.merge_laws.proofs.Shared.{sym, ap, subst, ◌∙◌, refl, Err, Ok, ◌≡◌, found_at, IsSet, itself, set_with, older, rises_with}
use Rattle.merge_laws.proofs.Edits.{put_in, unchanged, tells_ok}
use Rattle.merge_laws.proofs.sorted_set.SortedSet.insert.Goals as goal

pub invariant_of-self-in-Err : goal.invariant_of-self-in-Err
invariant_of-self-in-Err g c =
    let at : Err c.in-Err.index ≡ found_at g.T.Ord.cmp itself c.args.item.now c.self.inside.items = rw (← c.as_slice.ensures) c.in-Err.ensures.index in
    subst (IsSet g.T.Ord.cmp) (sym (put_in itself g.met.T.Ord.total older c.self.inside.items _ c.args.item.now _ c.in-Err.index at c.in_ok-copy-in-Err.ensures c.in_ok-insert-in-Err.ensures.ok))
    (rises_with itself g.met.T.Ord.total older (λ _ _. refl) c.args.item.now c.self.inside.items c.self.invariant)

pub returns-in-Ok-clause-ok : goal.returns-in-Ok-clause-ok
returns-in-Ok-clause-ok g c =
    let at : Ok c.in-Ok.field-0 ≡ found_at g.T.Ord.cmp itself c.args.item.now c.self.inside.items = rw (← c.as_slice.ensures) c.in-Ok.ensures.index in
    rw (← c.self.view_is) (sym (unchanged itself g.met.T.Ord.total older (λ _ _. refl) c.args.item.now c.self.inside.items c.self.invariant (tells_ok _ _ _ at).0))

pub returns-in_ok-insert-in-Err-clause-ok : goal.returns-in_ok-insert-in-Err-clause-ok
returns-in_ok-insert-in-Err-clause-ok g c =
    let at : Err c.in-Err.index ≡ found_at g.T.Ord.cmp itself c.args.item.now c.self.inside.items = rw (← c.as_slice.ensures) c.in-Err.ensures.index in
    put_in itself g.met.T.Ord.total older c.self.inside.items _ c.args.item.now _ c.in-Err.index at c.in_ok-copy-in-Err.ensures c.in_ok-insert-in-Err.ensures.ok
    ∙ ap (set_with g.T.Ord.cmp c.args.item.now) c.self.view_is
