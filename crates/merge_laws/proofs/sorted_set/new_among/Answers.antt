use Rattle.merge_laws.proofs.Shared.{◌≡◌, ℕ, ◌+◌, ◌++◌, ◌∷◌, [], List, Ok, Err, append-nil, get_or, refl, sym, ap, subst, ◌∙◌, arith, IsTotalOrder, AllWithin, Less, Ordering, found_at, new_item, index_of, has_key, itself}
use Rattle.merge_laws.proofs.Edits.{not_new, is_new, tells_err}
use Rattle.merge_laws.proofs.Lists.{flat_map_more}
use Rattle.merge_laws.proofs.Indices.{passed_found, passed_more}
use Rattle.merge_laws.proofs.sorted_set.new_among.Goals as goal
use Rattle.merge_laws.proofs.sorted_set.new_among.Goals.{in-Ok, in-Err+in_ok-copied-in-Err+in_ok-push-in-Err}

module _ {K : Type 0} {R : K → K → Ordering} (o : IsTotalOrder R) (es : List K) (f : K) where
  new_index : (from i : ℕ) → from ≡ i → Err i ≡ found_at R itself f es → from ≡ index_of R itself f es
  new_index from i is at = is ∙ sym (tells_err (has_key R itself f es) (index_of R itself f es) i at).1

  nothing_more : (old new : List (ℕ × K)) (i : ℕ) → new ≡ old → Ok i ≡ found_at R itself f es → new ≡ old ++ new_item R itself es f
  nothing_more old new i is at = is ∙ sym (ap (λ ns. old ++ ns) (not_new itself o f es i at) ∙ append-nil old)

  one_more : (old new : List (ℕ × K)) (i : ℕ) (x : K) → new ≡ old ++ (i, x) ∷ [] → x ≡ f → Err i ≡ found_at R itself f es → new ≡ old ++ new_item R itself es f
  one_more old new i x is same at = is ∙ ap (λ y. old ++ (i, y) ∷ []) same ∙ sym (ap (λ ns. old ++ ns) (is_new itself o f es i at))

pub loop-other-preserved : goal.loop-other-preserved
loop-other-preserved g c =
    let R = g.T.Ord.cmp in
    let es = c.args.items.now in
    let fs = c.args.others.now in
    let i = c.loop-other.other-index in
    let f = c.other-item.result in
    let o = g.met.T.Ord.total in
    let more : c.match-find_from.news.items ≡ c.loop-other.news.items ++ new_item R itself es f = elim c.match-find_from.branch [
      | in-Ok w ↦ nothing_more o es f c.loop-other.news.items c.match-find_from.news.items _ (ap (λ v. v.items) w.news-is) w.in-Ok.ensures.index
      | in-Err+in_ok-copied-in-Err+in_ok-push-in-Err w ↦ one_more o es f c.loop-other.news.items c.match-find_from.news.items _ _ (ap (λ v. v.items) w.news-is ∙ w.in_ok-push-in-Err.ensures.items) w.in_ok-copied-in-Err.ensures w.in-Err.ensures.index
    ] in
    record {
      news = more ∙ ap (λ ns. ns ++ new_item R itself es f) c.loop-other.invariant.news ∙ sym (flat_map_more (new_item R itself es) fs i f c.loop-other-test.true c.other-item.is);
      within = elim c.match-find_from.branch [
        | in-Ok w ↦ omega (arith, w.from-is, w.in-Ok.ensures.bound)
        | in-Err+in_ok-copied-in-Err+in_ok-push-in-Err w ↦ omega (arith, w.from-is, w.in-Err.ensures.bound)
      ];
      passed = λ d within. elim c.match-find_from.branch [
        | in-Ok w ↦ subst (λ n. AllWithin (λ e. R e (get_or fs (i + 1) d) ≡ Less) es 0 n) (sym w.from-is) (passed_found itself o es fs i _ f d c.requires.items c.requires.others c.other-item.is refl within _ w.in-Ok.ensures.index)
        | in-Err+in_ok-copied-in-Err+in_ok-push-in-Err w ↦ passed_more itself o es fs i _ f d c.requires.others c.other-item.is refl within _ (new_index o es f _ _ w.from-is w.in-Err.ensures.index)
      ];
    }
