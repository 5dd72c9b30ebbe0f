use Rattle.oim_report.proofs.Shared.{◌≡◌, List, Option, Some, None, MatchOption, ap, ◌∙◌, IfSome, Token, one}
use Rattle.json.specs.Json.{Json, array, object, Items, no_items, item, Members}
use Rattle.json.specs.Find.{InMembers, as_object}
use Rattle.oim_report.proofs.pieces.piece_tape.only_object.Goals as goal

members_of : (r : Option (List Token)) (v w : Json) (vs rest : Items) → v ≡ array vs → vs ≡ item w rest → rest ≡ no_items → MatchOption r (as_object w ≡ None) (λ m. (ms : Members) × (w ≡ object ms) × InMembers m ms) → IfSome r (λ m. (ms : Members) × (v ≡ one ms) × InMembers m ms)
members_of None v w vs rest a i n h = tt
members_of (Some m) v w vs rest a i n h = (h.0, a ∙ ap array i ∙ (λ k. array (item (h.1 k) (n k))), h.2)

pub returns-in-None : goal.returns-in-None
returns-in-None c = λ v begins.
    let items = c.in_ok-items.ensures v begins in
    let first = c.in_ok-object.ensures.value items.0 items.2 in
    let last = c.in-None.ensures.value first.1 first.4 in
    members_of c.members.result v first.0 items.0 first.1 items.1 first.2 last (c.members.ensures first.0 first.3)
