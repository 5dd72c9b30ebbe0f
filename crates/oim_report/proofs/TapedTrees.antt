-- Lists of values that are read from a tape.
use Rattle.oim_report.proofs.Shared.{◌≡◌, ℕ, ◌≤◌, List, [], ◌∷◌, ◌++◌, Some, None, option_map, option_and_then, refl, sym, ap, ◌∙◌, arith, Json, Token, BeginsWith, InItems, NextItem, items_depth, Items, no_items, item, of_items, view, items_view, IsReadAs}
use Rattle.json.specs.Json as j
use Rattle.serde_json.specs.declared.value.Value.{Value}

abbrev pub items_before : List Value → Items → Items
items_before [] rest = rest
items_before (v ∷ vs) rest = item (view v) (items_before vs rest)

items_all : (vs : List Value) → items_before vs no_items ≡ items_view vs
items_all [] = refl
items_all (v ∷ vs) = ap (item (view v)) (items_all vs)

-- the items before the place on the tape are read as `found`; if the others are read, all items are read
pub record AreTaken (n : ℕ) (vs : j.Items) (tape : List Token) (found : List Value) : Type 0 where
  pub left : j.Items
  pub here : InItems tape left
  pub whole : (ds : Items) → of_items left ≡ Some ds → items_depth left ≤ n → (of_items vs ≡ Some (items_before found ds)) × (items_depth vs ≤ n)

items_push : (vs : List Value) (v : Value) (rest : Items) → items_before vs (item (view v) rest) ≡ items_before (vs ++ v ∷ []) rest
items_push [] v rest = refl
items_push (w ∷ vs) v rest = ap (item (view w)) (items_push vs v rest)

pub one_taken : (n : ℕ) (vs : j.Items) (tape rest place : List Token) (found more : List Value) (value : Value) → NextItem tape (Some place) rest → ((v : Json) → BeginsWith place v → IsReadAs n v (view value)) → more ≡ found ++ value ∷ []
    → AreTaken n vs tape found → AreTaken n vs rest more
one_taken n vs tape rest place found more value next is_one pushed r =
    let step = next r.left r.here in
    let one = is_one step.0 step.3 in
    let low = one.flat in
    record {
      left = step.1;
      here = step.4;
      whole = λ ds e flat.
          let depths : items_depth r.left ≡ items_depth (j.item step.0 step.1) = ap items_depth step.2 in
          let reads : of_items r.left ≡ Some (item (view value) ds) = ap of_items step.2 ∙ (λ i. option_and_then (λ d. option_map (item d) (e i)) (one.reads i)) in
          let all = r.whole (item (view value) ds) reads (omega (arith, depths, low, flat)) in
          (all.0 ∙ ap (λ l. Some l) (items_push found value ds ∙ ap (λ l. items_before l ds) (sym pushed)), all.1);
    }

pub all_taken : (n : ℕ) (vs : j.Items) (tape rest : List Token) (found : List Value) → NextItem tape None rest → AreTaken n vs tape found → (of_items vs ≡ Some (items_view found)) × (items_depth vs ≤ n)
all_taken n vs tape rest found next r =
    let none : r.left ≡ j.no_items = next r.left r.here in
    let depths : items_depth r.left ≡ 0 = ap items_depth none in
    let all = r.whole no_items (ap of_items none) (omega (arith, depths)) in
    (all.0 ∙ ap (λ l. Some l) (items_all found), all.1)
