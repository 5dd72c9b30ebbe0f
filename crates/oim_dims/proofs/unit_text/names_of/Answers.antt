use Rattle.oim_dims.proofs.Shared.{◌≡◌, sym, lit<, [], ◌∷◌, None, subst, List, ℕ, err_from_is_err_and, map-append, All-get_or, YieldsList-from_str_split, all_zipped_more, AllZip, slice_split, Expands, name_refusal, is_star}
use Rattle.std.proofs.lemmas.Iterator.Consumers.{YieldsList-turn, YieldsList-end, YieldsList-at}
use Rattle.oim_dims.proofs.Naming.{only_memory}
use Rattle.oim_dims.proofs.unit_text.names_of.Goals as goal

pub returns-in_err-name-clause-errors : goal.returns-in_err-name-clause-errors
returns-in_err-name-clause-errors c free =
    let road = YieldsList-at c.into_iter-piece-iterator.ensures.into_iter_gives (YieldsList-from_str_split 42 c.args.side.now (lit< tt) c.split-piece-items.ensures.text c.split-piece-items.ensures.has_more c.split-piece-items.ensures.pattern) in
    let turn = YieldsList-turn road c.loop-piece.yielded _ c.loop-piece.yielded_by _ _ c.in-Some.piece c.in-Some.is c.next.ensures.steps in
    let named = All-get_or (λ p. name_refusal c.args.aliases.now p ≡ None) (slice_split is_star c.args.side.now) _ c.in-Some.piece.now turn.0 free in
    let here : name_refusal c.args.aliases.now c.in-Some.piece.now ≡ None = rw (sym turn.1) at named in
    let p = err_from_is_err_and c.from_residual.result c.from_residual.ensures.1 in
    rw (p.1, p.2) (only_memory c.args.aliases.now c.in-Some.piece.now _ here c.in_err-name.ensures.errors)

pub loop-piece-preserved : goal.loop-piece-preserved
loop-piece-preserved c =
    rw (map-append (λ x. x.now) c.loop-piece.yielded (c.in-Some.piece ∷ []), c.in_ok-push.ensures.items)
    (all_zipped_more (Expands c.args.aliases.now) _ _ c.in-Some.piece.now c.in_ok-name.name c.loop-piece.invariant c.in_ok-name.ensures.ok)

pub returns-clause-names : goal.returns-clause-names
returns-clause-names c =
    let road = YieldsList-at c.into_iter-piece-iterator.ensures.into_iter_gives (YieldsList-from_str_split 42 c.args.side.now (lit< tt) c.split-piece-items.ensures.text c.split-piece-items.ensures.has_more c.split-piece-items.ensures.pattern) in
    let end = YieldsList-end road c.loop-piece.yielded _ c.loop-piece.yielded_by _ _ c.in-None.is c.next.ensures.steps in
    let P : List (List ℕ) → Type 0 = λ ps. AllZip (Expands c.args.aliases.now) ps c.loop-piece.names.items in
    subst P end.0 c.loop-piece.invariant
