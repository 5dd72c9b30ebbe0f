-- Inserting all new items at the indices that searches found, the last item first, gives the union.
use Rattle.merge_laws.proofs.Shared.{◌≡◌, suc, ◌+◌, ◌≤◌, arith, true, false, not, cond, List, [], ◌∷◌, ◌++◌, append-nil, take, drop, take-append-drop, Option, Some, None, refl, sym, ap, subst, ◌∙◌, ℕ, every_append, reverse, is_some, option_or, Ordering, Less, Equal, Greater, is_lt, is_eq, IsTotalOrder, Equal-is, alike_right, AllByRecursion, true≢false, flat_map-append, reverse-append, find-append, IsFirstLeast, inserted, new_item, new_items, index_of, IsRising, item_at, has_key, Below, none_below, none_tied, below_less, same_found, turned_less, turned_greater}
use Rattle.std.specs.List.Sorted.{IsStrictlySortedBy}
use Rattle.merge_laws.proofs.Edits.{index_behind, index_here, not_here, below_rest, rest_rises}
use Rattle.merge_laws.proofs.Lists.{AllBelow, from_end, all_front, all_back, or_none, rises_front, rises_back, below_last, rises_around}

absent_below : {A : Type 0} (a b : Option A) → option_or (option_or a b) None ≡ option_or (option_or a None) (option_or b None)
absent_below None None = refl
absent_below o b = refl

absent_tied : {A : Type 0} (a b : Option A) (y : A) → option_or (option_or a b) (Some y) ≡ option_or (option_or a None) (option_or b (Some y))
absent_tied None None y = refl
absent_tied o b y = refl

absent_above : {A : Type 0} (a d : Option A) → option_or (option_or a None) d ≡ option_or (option_or a d) None
absent_above None None = refl
absent_above o d = refl

there_first : {A : Type 0} (a b : Option A) → is_some a ≡ true → option_or a b ≡ a
there_first None b has = absurd (true≢false (sym has))
there_first (Some x) b has = refl

module _ {K E : Type 0} {R : K → K → Ordering} (key : E → K) (o : IsTotalOrder R) where
  -- a key that is not in a list splits the list into items below the key and items above the key
  pub record IsParted (k : K) (es : List E) : Type 0 where
    pub below : AllBelow key o k (take (index_of R key k es) es)
    pub above : Below key o k (drop (index_of R key k es) es)

  pub parted_at : (k : K) (es : List E) → IsRising R key es → has_key R key k es ≡ false → IsParted k es
  parted_at k [] h has = record { below = tt; above = tt }
  parted_at k (e ∷ es) h has =
      elim (R k (key e)) as (λ r. R k (key e) ≡ r → IsParted k (e ∷ es)) [
        | Less ↦ λ p.
            let here : 0 ≡ index_of R key k (e ∷ es) = sym (index_here key o k e es (ap is_lt (turned_less key o k (key e) p))) in
            record { below = subst (λ i. AllBelow key o k (take i (e ∷ es))) here tt; above = subst (λ i. Below key o k (drop i (e ∷ es))) here (below_rest key o k e es h p) }
        | Equal ↦ λ p. absurd (true≢false (sym (ap (λ r. is_some (cond (is_eq r) (Some e) (item_at R key k es))) p) ∙ has))
        | Greater ↦ λ p.
            let lower : R (key e) k ≡ Less = turned_greater key o k (key e) p in
            let rest = parted_at k es (rest_rises key o e es h) (sym (not_here key o k e es p) ∙ has) in
            let behind : suc (index_of R key k es) ≡ index_of R key k (e ∷ es) = sym (index_behind key o k e es lower) in
            record { below = subst (λ i. AllBelow key o k (take i (e ∷ es))) behind (lower, rest.below); above = subst (λ i. Below key o k (drop i (e ∷ es))) behind rest.above }
      ] refl

  below_finds : (w k : K) (es : List E) → IsRising R key es → R w k ≡ Less → item_at R key w (take (index_of R key k es) es) ≡ item_at R key w es
  below_finds w k [] h p = refl
  below_finds w k (e ∷ es) h p =
      elim (is_lt (R (key e) k)) as (λ b. is_lt (R (key e) k) ≡ b → item_at R key w (take (index_of R key k (e ∷ es)) (e ∷ es)) ≡ item_at R key w (e ∷ es)) [
        | true ↦ λ t.
            ap (λ i. item_at R key w (take i (e ∷ es))) (index_behind key o k e es (less_from t))
            ∙ ap (λ a. cond (is_eq (R w (key e))) (Some e) a) (below_finds w k es (rest_rises key o e es h) p)
        | false ↦ λ t.
            ap (λ i. item_at R key w (take i (e ∷ es))) (index_here key o k e es t)
            ∙ sym (none_below key o w (e ∷ es) (below_rest key o w e es h (under t)))
      ] refl
    where
      less_from : is_lt (R (key e) k) ≡ true → R (key e) k ≡ Less
      less_from t = elim (R (key e) k) as (λ r. is_lt r ≡ true → r ≡ Less) [ Less ↦ λ _. refl | Equal ↦ λ u. absurd (true≢false (sym u)) | Greater ↦ λ u. absurd (true≢false (sym u)) ] t

      under : is_lt (R (key e) k) ≡ false → R w (key e) ≡ Less
      under t = elim (R (key e) k) as (λ r. R (key e) k ≡ r → is_lt r ≡ false → R w (key e) ≡ Less) [
        | Less ↦ λ q u. absurd (true≢false u)
        | Equal ↦ λ q _. alike_right o (key e) k w q ∙ p
        | Greater ↦ λ q _. o.trans w k (key e) p (turned_greater key o (key e) k q)
      ] refl t

  below_indices : (w k : K) (es : List E) → IsRising R key es → R w k ≡ Less → index_of R key w (take (index_of R key k es) es) ≡ index_of R key w es
  below_indices w k [] h p = refl
  below_indices w k (e ∷ es) h p =
      elim (R (key e) k) as (λ r. R (key e) k ≡ r → index_of R key w (take (index_of R key k (e ∷ es)) (e ∷ es)) ≡ index_of R key w (e ∷ es)) [
        | Less ↦ λ t.
            ap (λ i. index_of R key w (take i (e ∷ es))) (index_behind key o k e es t)
            ∙ ap (λ n. cond (not (not (is_lt (R (key e) w)))) (1 + n) 0) (below_indices w k es (rest_rises key o e es h) p)
        | Equal ↦ λ t. above (ap is_lt t) (o.congr (key e) k w t ∙ turned_less key o w k p)
        | Greater ↦ λ t. above (ap is_lt t) (turned_less key o w (key e) (o.trans w k (key e) p (turned_greater key o (key e) k t)))
      ] refl
    where
      above : is_lt (R (key e) k) ≡ false → R (key e) w ≡ Greater → index_of R key w (take (index_of R key k (e ∷ es)) (e ∷ es)) ≡ index_of R key w (e ∷ es)
      above t q = ap (λ i. index_of R key w (take i (e ∷ es))) (index_here key o k e es t) ∙ sym (index_here key o w e es (ap is_lt q))

  -- if all items of fs are below a key, their insertions into es depend only on the items of es below that key
  below_news : (k : K) (es fs : List E) → IsRising R key es → AllBelow key o k fs → new_items R key es fs ≡ new_items R key (take (index_of R key k es) es) fs
  below_news k es [] h b = refl
  below_news k es (f ∷ fs) h b =
      let found = sym (below_finds (key f) k es h b.0) in
      let index = sym (below_indices (key f) k es h b.0) in
      λ i. cond (is_some (found i)) [] ((index i, f) ∷ []) ++ below_news k es fs h b.1 i

  -- the list `out` ascends, and has the items of es and the items of fs whose keys are not in es
  pub record IsTaken (es fs out : List E) : Type 0 where
    pub rises : IsRising R key out
    pub at : (q : K) → item_at R key q out ≡ option_or (item_at R key q es) (item_at R key q fs)
    pub below : (k : K) → AllBelow key o k es → AllBelow key o k fs → AllBelow key o k out

  none_above : (q k : K) (fs : List E) → R k q ≡ Less → AllBelow key o k fs → item_at R key q fs ≡ None
  none_above q k [] p h = refl
  none_above q k (f ∷ fs) p h = ap (λ r. cond (is_eq r) (Some f) (item_at R key q fs)) (turned_less key o (key f) q (o.trans (key f) k q h.0 p)) ∙ none_above q k fs p h.1

  parts : (q k : K) (es : List E) → item_at R key q es ≡ option_or (item_at R key q (take (index_of R key k es) es)) (item_at R key q (drop (index_of R key k es) es))
  parts q k es = ap (item_at R key q) (sym (take-append-drop (index_of R key k es) es)) ∙ find-append (λ e. is_eq (R q (key e))) (take (index_of R key k es) es) (drop (index_of R key k es) es)

  news_of_more : (es fs : List E) (f : E) → reverse (new_items R key es (fs ++ f ∷ [])) ≡ reverse (new_item R key es f) ++ reverse (new_items R key es fs)
  news_of_more es fs f =
      ap reverse (flat_map-append (new_item R key es) fs (f ∷ []) ∙ ap (λ ns. new_items R key es fs ++ ns) (append-nil (new_item R key es f)))
      ∙ reverse-append (new_items R key es fs) (new_item R key es f)

  taken_there : (es fs out : List E) (f : E) → has_key R key (key f) es ≡ true → AllBelow key o (key f) fs → IsTaken es fs out → IsTaken es (fs ++ f ∷ []) out
  taken_there es fs out f has low taken = record {
    rises = taken.rises;
    at = λ q. taken.at q ∙ elim (is_eq (R q (key f))) as (λ b. is_eq (R q (key f)) ≡ b → option_or (item_at R key q es) (item_at R key q fs) ≡ option_or (item_at R key q es) (item_at R key q (fs ++ f ∷ []))) [
      | true ↦ λ t.
          let here : is_some (item_at R key q es) ≡ true = ap is_some (same_found key o q (key f) es ((Equal-is (R q (key f))).0 t)) ∙ has in
          there_first _ _ here ∙ sym (there_first _ _ here)
      | false ↦ λ t. ap (option_or (item_at R key q es)) (sym (find-append (λ e. is_eq (R q (key e))) fs (f ∷ []) ∙ ap (λ b. option_or (item_at R key q fs) (cond b (Some f) None)) t ∙ or_none (item_at R key q fs)))
    ] refl;
    below = λ k low_es low_fs. taken.below k low_es (all_front (λ e. R (key e) k ≡ Less) fs (f ∷ []) low_fs);
  }

  taken_new : (es fs out : List E) (f : E) → IsRising R key es → has_key R key (key f) es ≡ false → AllBelow key o (key f) fs → IsTaken (take (index_of R key (key f) es) es) fs out → IsTaken es (fs ++ f ∷ []) (out ++ f ∷ drop (index_of R key (key f) es) es)
  taken_new es fs out f h has low taken =
      let i = index_of R key (key f) es in
      let sides = parted_at (key f) es h has in
      let whole = take-append-drop i es in
      record {
        rises = rises_around key o out f (drop i es) taken.rises (taken.below (key f) sides.below low) sides.above (rises_back key o (take i es) (drop i es) (subst (IsRising R key) (sym whole) h));
        at = λ q.
            let a = item_at R key q (take i es) in
            let d = item_at R key q (drop i es) in
            let b = item_at R key q fs in
            find-append (λ e. is_eq (R q (key e))) out (f ∷ drop i es)
            ∙ ap (λ x. option_or x (cond (is_eq (R q (key f))) (Some f) d)) (taken.at q)
            ∙ elim (R q (key f)) as (λ r. R q (key f) ≡ r → option_or (option_or a b) (cond (is_eq r) (Some f) d) ≡ option_or (option_or a d) (option_or b (cond (is_eq r) (Some f) None))) [
              | Less ↦ λ p. let gone : d ≡ None = none_below key o q (drop i es) (below_less key o q (key f) (drop i es) p sides.above) in
                  ap (option_or (option_or a b)) gone ∙ absent_below a b ∙ ap (λ x. option_or (option_or a x) (option_or b None)) (sym gone)
              | Equal ↦ λ p. let gone : d ≡ None = none_tied key o q (key f) (drop i es) p sides.above in
                  absent_tied a b f ∙ ap (λ x. option_or (option_or a x) (option_or b (Some f))) (sym gone)
              | Greater ↦ λ p. let gone : b ≡ None = none_above q (key f) fs (turned_greater key o q (key f) p) low in
                  ap (λ x. option_or (option_or a x) d) gone ∙ absent_above a d ∙ ap (λ x. option_or (option_or a d) (option_or x None)) (sym gone)
            ] refl
            ∙ (λ n. option_or (sym (parts q (key f) es) n) (sym (find-append (λ e. is_eq (R q (key e))) fs (f ∷ [])) n));
        below = λ k low_es low_fs.
            let each = subst (AllBelow key o k) (sym whole) low_es in
            every_append (λ e. R (key e) k ≡ Less) out (f ∷ drop i es)
            (taken.below k (all_front (λ e. R (key e) k ≡ Less) (take i es) (drop i es) each) (all_front (λ e. R (key e) k ≡ Less) fs (f ∷ []) low_fs))
            ((all_back (λ e. R (key e) k ≡ Less) fs (f ∷ []) low_fs).0, all_back (λ e. R (key e) k ≡ Less) (take i es) (drop i es) each);
      }

  abbrev Takes : List E → Type 0
  Takes fs = (es : List E) → IsRising R key es → IsRising R key fs → IsTaken es fs (inserted es (reverse (new_items R key es fs)))

  takes_more : (fs : List E) (f : E) → Takes fs → Takes (fs ++ f ∷ [])
  takes_more fs f takes es h g =
      let low = below_last key o fs f [] g in
      let i = index_of R key (key f) es in
      subst (λ ns. IsTaken es (fs ++ f ∷ []) (inserted es ns)) (sym (news_of_more es fs f))
      (elim (has_key R key (key f) es) as (λ b. has_key R key (key f) es ≡ b → IsTaken es (fs ++ f ∷ []) (inserted es (reverse (cond b [] ((i, f) ∷ [])) ++ reverse (new_items R key es fs)))) [
        | true ↦ λ has. taken_there es fs _ f has low (takes es h (rises_front key o fs (f ∷ []) g))
        | false ↦ λ has. subst (λ ns. IsTaken es (fs ++ f ∷ []) (inserted (take i es) (reverse ns) ++ f ∷ drop i es)) (sym (below_news (key f) es fs h low))
            (taken_new es fs _ f h has low (takes (take i es) (rises_front key o (take i es) (drop i es) (subst (IsRising R key) (sym (take-append-drop i es)) h)) (rises_front key o fs (f ∷ []) g)))
      ] refl)

  pub takes_all : (es fs : List E) → IsRising R key es → IsRising R key fs → IsTaken es fs (inserted es (reverse (new_items R key es fs)))
  takes_all es fs = from_end Takes (λ es h g. record { rises = h; at = λ q. sym (or_none (item_at R key q es)); below = λ k low_es low_fs. low_es }) takes_more fs es

  indices_rise : (j k : K) (es : List E) → R j k ≡ Less → index_of R key j es ≤ index_of R key k es
  indices_rise j k [] p = omega arith
  indices_rise j k (e ∷ es) p =
      elim (R (key e) j) as (λ r. R (key e) j ≡ r → index_of R key j (e ∷ es) ≤ index_of R key k (e ∷ es)) [
        | Less ↦ λ t.
            let first : index_of R key j (e ∷ es) ≡ suc (index_of R key j es) = index_behind key o j e es t in
            let second : index_of R key k (e ∷ es) ≡ suc (index_of R key k es) = index_behind key o k e es (o.trans (key e) j k t p) in
            let rest = indices_rise j k es p in
            omega (arith, first, second, rest)
        | Equal ↦ λ t. let here : index_of R key j (e ∷ es) ≡ 0 = index_here key o j e es (ap is_lt t) in omega (arith, here)
        | Greater ↦ λ t. let here : index_of R key j (e ∷ es) ≡ 0 = index_here key o j e es (ap is_lt t) in omega (arith, here)
      ] refl

  none_before : (k : K) (es fs : List E) → Below key o k fs → AllByRecursion (λ n. index_of R key k es ≤ n.0) (new_items R key es fs)
  none_before k es [] h = tt
  none_before k es (f ∷ fs) h = elim (has_key R key (key f) es) as (λ b. AllByRecursion (λ n. index_of R key k es ≤ n.0) (cond b [] ((index_of R key (key f) es, f) ∷ []) ++ new_items R key es fs)) [
    | true ↦ none_before k es fs h.1
    | false ↦ (indices_rise k (key f) es h.0, none_before k es fs h.1)
  ]

  pub first_least : (end : ℕ) (es fs : List E) → IsRising R key fs → IsFirstLeast end (new_items R key es fs)
  unfolding IsStrictlySortedBy
  first_least end es [] h = tt
  first_least end es (f ∷ fs) h = elim (has_key R key (key f) es) as (λ b. IsFirstLeast end (cond b [] ((index_of R key (key f) es, f) ∷ []) ++ new_items R key es fs)) [
    | true ↦ first_least end es fs h.1
    | false ↦ (omega arith, none_before (key f) es fs h.0)
  ]
