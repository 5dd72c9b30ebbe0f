use Rattle.oim_report.proofs.Shared.{◌≡◌, ◌++◌, ◌∷◌, ℕ, List, [], String, Global, map, string_bytes, sym, ap, ◌∙◌, append-nil, append_assoc, Fact}
use Rattle.oim_report.proofs.pieces.found_facts.found_in.Goals as goal

one_on : {A B : Type 0} (f : A → B) (xs ys more : List B) (e : A) (es rest : List A) → more ≡ xs ++ f e ∷ [] → es ≡ e ∷ rest → xs ++ map f es ≡ ys → more ++ map f rest ≡ ys
one_on f xs ys more e es rest m s h = ap (λ l. l ++ map f rest) m ∙ append_assoc xs (f e ∷ []) (map f rest) ∙ ap (λ l. xs ++ map f l) (sym s) ∙ h

all_on : {A B : Type 0} (f : A → B) (xs ys : List B) (es : List A) → es ≡ [] → xs ++ map f es ≡ ys → xs ≡ ys
all_on f xs ys es e h = sym (append-nil xs) ∙ ap (λ l. xs ++ map f l) (sym e) ∙ h

pub loop-identifier-init : goal.loop-identifier-init
loop-identifier-init c =
    let es = c.into_iter-identifier-iterator.result in
    let kept = c.in_ok-reserve.ensures in
    let none = c.new-all.ensures in
    (ap (λ l. l ++ map (λ e. string_bytes e.0) es) (kept.identifiers ∙ none.identifiers), ap (λ l. l ++ map (λ e. e.1.0) es) (kept.facts ∙ none.facts), ap (λ l. l ++ map (λ e. e.1.1) es) (kept.ranks ∙ none.ranks))

pub loop-identifier-preserved : goal.loop-identifier-preserved
loop-identifier-preserved c =
    let l = c.loop-identifier in
    let pushed = c.in_ok-push.ensures in
    let e : String Global × (Fact × ℕ) = (c.in-Some.identifier, (c.in-Some.fact, c.in-Some.rank)) in (
      one_on (λ e. string_bytes e.0) _ _ _ e _ c.next.new.self (pushed.identifiers ∙ ap (λ t. l.all.identifiers ++ t ∷ []) c.as_str.ensures.value) c.in-Some.ensures.steps l.invariant.0,
      one_on (λ e. e.1.0) _ _ _ e _ c.next.new.self pushed.facts c.in-Some.ensures.steps l.invariant.1,
      one_on (λ e. e.1.1) _ _ _ e _ c.next.new.self pushed.ranks c.in-Some.ensures.steps l.invariant.2,
    )

pub returns : goal.returns
returns c =
    let l = c.loop-identifier in
    let es = c.into_iter-identifier-iterator.ensures.into_iter_gives.0 in
    let end = c.in-None.ensures.steps.0 in
    (all_on (λ e. string_bytes e.0) _ _ _ end l.invariant.0 ∙ ap (map (λ e. string_bytes e.0)) es, all_on (λ e. e.1.0) _ _ _ end l.invariant.1 ∙ ap (map (λ e. e.1.0)) es, all_on (λ e. e.1.1) _ _ _ end l.invariant.2 ∙ ap (map (λ e. e.1.1)) es)
