use Rattle.oim_merge.proofs.Shared.{◌≡◌, suc, Some, None, subst, arith, MatchOption, Replay, numbered}
use Rattle.oim_merge.proofs.StoredTexts.{text_of_number}
use Rattle.oim_merge.proofs.replayed.Replayed.sent.Goals as goal

pub returns : goal.returns
returns c =
    let inside = c.self.inside in
    let index = c.in_ok-index.index in
    let held = c.in_ok-held.held.now in
    let is : c.args.number ≡ suc index = omega arith in
    let found = rw c.deref.ensures.value at c.in_ok-held.ensures.lookup.3 in
    subst (λ (r : Replay). MatchOption c.get-2.result (numbered r.world.sent c.args.number ≡ None) (λ text. numbered r.world.sent c.args.number ≡ Some text.now)) c.self.view_is
    (text_of_number inside.texts.items inside.sent.items c.args.number index held c.get-2.result c.self.invariant is found.0 (found.1 held) (rw c.deref-2.ensures.value at c.get-2.ensures.lookup.3))
