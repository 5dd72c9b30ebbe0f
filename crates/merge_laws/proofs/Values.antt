-- Replacing the values at the keys that both maps have.
use Rattle.merge_laws.proofs.Shared.{◌≡◌, ℕ, zero, suc, ◌+◌, ◌<◌, true, false, not, cond, List, [], ◌∷◌, ◌++◌, append-nil, length, get_or, set, Option, Some, None, refl, sym, ap, subst, ◌∙◌, arith, is_some, option_or, Ordering, Less, Equal, Greater, is_lt, is_eq, ordering_reverse, IsTotalOrder, Equal-is, tied_back, alike_right, AllByRecursion, true≢false, flat_map-append, find-append, new_value, new_values, shared_value, with_value, with_values, index_of, IsRising, item_at, has_key, entry_key, Below, none_below, same_found}
use Rattle.std.specs.List.Sorted.{IsStrictlySortedBy}
use Rattle.merge_laws.proofs.Edits.{index_behind, index_here, not_here, below_rest, rest_rises}
use Rattle.merge_laws.proofs.Lists.{AllBelow, from_end, or_none, rises_front, below_last}

module _ {K V : Type 0} where
  pub with_more : (es : List (K × V)) (cs : List (ℕ × V)) (c : ℕ × V) → with_values es (cs ++ c ∷ []) ≡ with_value c.0 c.1 (with_values es cs)
  with_more es [] c = refl
  with_more es (d ∷ cs) c = with_more (with_value d.0 d.1 es) cs c

  pub set_is_value : (es : List (K × V)) (i : ℕ) (v : V) (x : K × V) → x ≡ get_or es i x → set es i (x.0, v) ≡ with_value i v es
  set_is_value [] i v x is = refl
  set_is_value (e ∷ es) zero v x is = ap (λ f. (f.0, v) ∷ es) is
  set_is_value (e ∷ es) (suc i) v x is = ap (λ s. e ∷ s) (set_is_value es i v x is)

module _ {K V : Type 0} {R : K → K → Ordering} (o : IsTotalOrder R) where
  below_kept : (k : K) (i : ℕ) (v : V) (es : List (K × V)) → Below entry_key o k es → Below entry_key o k (with_value i v es)
  below_kept k i v [] h = tt
  below_kept k zero v (e ∷ es) h = h
  below_kept k (suc i) v (e ∷ es) h = (h.0, below_kept k i v es h.1)

  rises_kept : (i : ℕ) (v : V) (es : List (K × V)) → IsRising R entry_key es → IsRising R entry_key (with_value i v es)
  unfolding IsStrictlySortedBy
  rises_kept i v [] h = h
  rises_kept zero v (e ∷ es) h = h
  rises_kept (suc i) v (e ∷ es) h = (below_kept e.0 i v es h.0, rises_kept i v es h.1)

  has_kept : (k : K) (i : ℕ) (v : V) (es : List (K × V)) → has_key R entry_key k (with_value i v es) ≡ has_key R entry_key k es
  has_kept k i v [] = refl
  has_kept k zero v (e ∷ es) = elim (is_eq (R k e.0)) as (λ b. is_some (cond b (Some (e.0, v)) (item_at R entry_key k es)) ≡ is_some (cond b (Some e) (item_at R entry_key k es))) [ true ↦ refl | false ↦ refl ]
  has_kept k (suc i) v (e ∷ es) = elim (is_eq (R k e.0)) as (λ b. is_some (cond b (Some e) (item_at R entry_key k (with_value i v es))) ≡ is_some (cond b (Some e) (item_at R entry_key k es))) [ true ↦ refl | false ↦ has_kept k i v es ]

  index_kept : (k : K) (i : ℕ) (v : V) (es : List (K × V)) → index_of R entry_key k (with_value i v es) ≡ index_of R entry_key k es
  index_kept k i v [] = refl
  index_kept k zero v (e ∷ es) = refl
  index_kept k (suc i) v (e ∷ es) = ap (λ n. cond (not (not (is_lt (R e.0 k)))) (1 + n) 0) (index_kept k i v es)

  -- the item at each key after one value is replaced
  value_come : (q k : K) (v : V) (es : List (K × V)) (e : K × V) → IsRising R entry_key es → item_at R entry_key k es ≡ Some e → item_at R entry_key q (with_value (index_of R entry_key k es) v es) ≡ cond (is_eq (R q k)) (Some (e.0, v)) (item_at R entry_key q es)
  value_come q k v [] e h is = absurd (true≢false (sym (ap is_some is)))
  value_come q k v (f ∷ es) e h is =
      elim (R k f.0) as (λ r. R k f.0 ≡ r → item_at R entry_key q (with_value (index_of R entry_key k (f ∷ es)) v (f ∷ es)) ≡ cond (is_eq (R q k)) (Some (e.0, v)) (item_at R entry_key q (f ∷ es))) [
        | Less ↦ λ p. absurd (true≢false (sym (ap is_some (sym (none_below entry_key o k (f ∷ es) (below_rest entry_key o k f es h p)) ∙ is))))
        | Equal ↦ λ p.
            let same : f ≡ e = ap (λ a. elim a [ Some x ↦ x | None ↦ f ]) (sym (ap (λ r. cond (is_eq r) (Some f) (item_at R entry_key k es)) p) ∙ is) in
            ap (λ i. item_at R entry_key q (with_value i v (f ∷ es))) (index_here entry_key o k f es (ap is_lt (tied_back o k f.0 p)))
            ∙ elim (is_eq (R q f.0)) as (λ b. is_eq (R q f.0) ≡ b → cond b (Some (f.0, v)) (item_at R entry_key q es) ≡ cond (is_eq (R q k)) (Some (e.0, v)) (cond b (Some f) (item_at R entry_key q es))) [
              | true ↦ λ t. ap (λ x. Some (x.0, v)) same ∙ sym (ap (λ b. cond b (Some (e.0, v)) (Some f)) (ap is_eq (alike_right o k f.0 q p) ∙ t))
              | false ↦ λ t. sym (ap (λ b. cond b (Some (e.0, v)) (item_at R entry_key q es)) (ap is_eq (alike_right o k f.0 q p) ∙ t))
            ] refl
        | Greater ↦ λ p.
            let rest : item_at R entry_key k es ≡ Some e = sym (ap (λ r. cond (is_eq r) (Some f) (item_at R entry_key k es)) p) ∙ is in
            ap (λ i. item_at R entry_key q (with_value i v (f ∷ es))) (index_behind entry_key o k f es (o.antisymm f.0 k ∙ ap ordering_reverse p))
            ∙ elim (is_eq (R q f.0)) as (λ b. is_eq (R q f.0) ≡ b → cond b (Some f) (item_at R entry_key q (with_value (index_of R entry_key k es) v es)) ≡ cond (is_eq (R q k)) (Some (e.0, v)) (cond b (Some f) (item_at R entry_key q es))) [
              | true ↦ λ t. sym (ap (λ r. cond (is_eq r) (Some (e.0, v)) (Some f)) ((o.congr q f.0 k ((Equal-is (R q f.0)).0 t) ∙ (o.antisymm f.0 k ∙ ap ordering_reverse p))))
              | false ↦ λ t. value_come q k v es e (rest_rises entry_key o f es h) rest
            ] refl
      ] refl

  module _ (merged : V → V → V) where
    -- the first map's entry at a key, with the second map's value at the key merged in; None if the first map lacks the key
    abbrev pub revalued : Option (K × V) → Option (K × V) → Option (K × V)
    revalued None b = None
    revalued (Some e) None = Some e
    revalued (Some e) (Some f) = Some (e.0, merged e.1 f.1)

    no_others : (a : Option (K × V)) → revalued a None ≡ a
    no_others None = refl
    no_others (Some e) = refl

    pub record IsRevalued (es fs out : List (K × V)) : Type 0 where
      pub rises : IsRising R entry_key out
      pub has : (k : K) → has_key R entry_key k out ≡ has_key R entry_key k es
      pub index : (k : K) → index_of R entry_key k out ≡ index_of R entry_key k es
      pub at : (q : K) → item_at R entry_key q out ≡ revalued (item_at R entry_key q es) (item_at R entry_key q fs)

    more_others : (q : K) (fs : List (K × V)) (f : K × V) → item_at R entry_key q (fs ++ f ∷ []) ≡ option_or (item_at R entry_key q fs) (cond (is_eq (R q f.0)) (Some f) None)
    more_others q fs f = find-append (λ e. is_eq (R q e.0)) fs (f ∷ [])

    none_above : (q : K) (fs : List (K × V)) → AllBelow entry_key o q fs → item_at R entry_key q fs ≡ None
    none_above q [] h = refl
    none_above q (f ∷ fs) h = ap (λ r. cond (is_eq r) (Some f) (item_at R entry_key q fs)) (o.antisymm q f.0 ∙ ap ordering_reverse h.0) ∙ none_above q fs h.1

    -- if the other map's next entry has a new key, no value changes
    other_alone : (es fs out : List (K × V)) (f : K × V) → item_at R entry_key f.0 es ≡ None → IsRevalued es fs out → IsRevalued es (fs ++ f ∷ []) out
    other_alone es fs out f none before = record {
      rises = before.rises;
      has = before.has;
      index = before.index;
      at = λ q. before.at q ∙ elim (is_eq (R q f.0)) as (λ b. is_eq (R q f.0) ≡ b → revalued (item_at R entry_key q es) (item_at R entry_key q fs) ≡ revalued (item_at R entry_key q es) (item_at R entry_key q (fs ++ f ∷ []))) [
        | true ↦ λ t. let gone : item_at R entry_key q es ≡ None = same_found entry_key o q f.0 es ((Equal-is (R q f.0)).0 t) ∙ none in
            ap (λ a. revalued a (item_at R entry_key q fs)) gone ∙ sym (ap (λ a. revalued a (item_at R entry_key q (fs ++ f ∷ []))) gone)
        | false ↦ λ t. ap (revalued (item_at R entry_key q es)) (sym (more_others q fs f ∙ ap (λ b. option_or (item_at R entry_key q fs) (cond b (Some f) None)) t ∙ or_none (item_at R entry_key q fs)))
      ] refl;
    }

    -- if the map has the key of the other map's next entry, the merged value replaces the old value
    other_shared : (es fs out : List (K × V)) (f e : K × V) → item_at R entry_key f.0 es ≡ Some e → AllBelow entry_key o f.0 fs → IsRevalued es fs out → IsRevalued es (fs ++ f ∷ []) (with_value (index_of R entry_key f.0 es) (merged e.1 f.1) out)
    other_shared es fs out f e here low before =
        let v = merged e.1 f.1 in
        let still : item_at R entry_key f.0 out ≡ Some e = before.at f.0 ∙ (λ n. revalued (here n) (none_above f.0 fs low n)) in
        subst (λ i. IsRevalued es (fs ++ f ∷ []) (with_value i v out)) (before.index f.0)
        (record {
          rises = rises_kept (index_of R entry_key f.0 out) v out before.rises;
          has = λ k. has_kept k (index_of R entry_key f.0 out) v out ∙ before.has k;
          index = λ k. index_kept k (index_of R entry_key f.0 out) v out ∙ before.index k;
          at = λ q. value_come q f.0 v out e before.rises still ∙ elim (is_eq (R q f.0)) as (λ b. is_eq (R q f.0) ≡ b → cond b (Some (e.0, v)) (item_at R entry_key q out) ≡ revalued (item_at R entry_key q es) (item_at R entry_key q (fs ++ f ∷ []))) [
            | true ↦ λ t.
                let tied : R q f.0 ≡ Equal = (Equal-is (R q f.0)).0 t in
                let others : item_at R entry_key q (fs ++ f ∷ []) ≡ Some f = more_others q fs f ∙ (λ n. option_or ((same_found entry_key o q f.0 fs tied ∙ none_above f.0 fs low) n) (cond (t n) (Some f) None)) in
                sym (λ n. revalued ((same_found entry_key o q f.0 es tied ∙ here) n) (others n))
            | false ↦ λ t. before.at q ∙ ap (revalued (item_at R entry_key q es)) (sym (more_others q fs f ∙ ap (λ b. option_or (item_at R entry_key q fs) (cond b (Some f) None)) t ∙ or_none (item_at R entry_key q fs)))
          ] refl;
        })

    abbrev Revalues : List (K × V) → List (K × V) → Type 0
    Revalues es fs = IsRising R entry_key fs → IsRevalued es fs (with_values es (new_values R merged es fs))

    values_of_more : (es fs : List (K × V)) (f : K × V) → new_values R merged es (fs ++ f ∷ []) ≡ new_values R merged es fs ++ new_value R merged es f
    values_of_more es fs f = flat_map-append (new_value R merged es) fs (f ∷ []) ∙ ap (λ cs. new_values R merged es fs ++ cs) (append-nil (new_value R merged es f))

    revalues_more : (es fs : List (K × V)) (f : K × V) → Revalues es fs → Revalues es (fs ++ f ∷ [])
    revalues_more es fs f before g =
        let low = below_last entry_key o fs f [] g in
        let done = before (rises_front entry_key o fs (f ∷ []) g) in
        subst (λ cs. IsRevalued es (fs ++ f ∷ []) (with_values es cs)) (sym (values_of_more es fs f))
        (elim (item_at R entry_key f.0 es) as (λ a. item_at R entry_key f.0 es ≡ a → IsRevalued es (fs ++ f ∷ []) (with_values es (new_values R merged es fs ++ shared_value R merged (index_of R entry_key f.0 es) f.1 a))) [
          | None ↦ λ none. subst (λ cs. IsRevalued es (fs ++ f ∷ []) (with_values es cs)) (sym (append-nil (new_values R merged es fs))) (other_alone es fs _ f none done)
          | Some e ↦ λ here. subst (IsRevalued es (fs ++ f ∷ [])) (sym (with_more es (new_values R merged es fs) (index_of R entry_key f.0 es, merged e.1 f.1))) (other_shared es fs _ f e here low done)
        ] refl)

    pub revalues_all : (es fs : List (K × V)) → IsRising R entry_key es → IsRising R entry_key fs → IsRevalued es fs (with_values es (new_values R merged es fs))
    revalues_all es fs h = from_end (Revalues es) (λ g. record { rises = h; has = λ k. refl; index = λ k. refl; at = λ q. sym (no_others (item_at R entry_key q es)) }) (revalues_more es) fs

    index_within : (k : K) (es : List (K × V)) → IsRising R entry_key es → has_key R entry_key k es ≡ true → index_of R entry_key k es < length es
    index_within k [] h has = absurd (true≢false (sym has))
    index_within k (e ∷ es) h has =
        elim (R k e.0) as (λ r. R k e.0 ≡ r → index_of R entry_key k (e ∷ es) < length (e ∷ es)) [
          | Less ↦ λ p. absurd (true≢false (sym has ∙ ap is_some (none_below entry_key o k (e ∷ es) (below_rest entry_key o k e es h p))))
          | Equal ↦ λ p. let here : index_of R entry_key k (e ∷ es) ≡ 0 = index_here entry_key o k e es (ap is_lt (tied_back o k e.0 p)) in omega (arith, here)
          | Greater ↦ λ p.
              let rest = index_within k es (rest_rises entry_key o e es h) (sym (not_here entry_key o k e es p) ∙ has) in
              let behind : index_of R entry_key k (e ∷ es) ≡ suc (index_of R entry_key k es) = index_behind entry_key o k e es (o.antisymm e.0 k ∙ ap ordering_reverse p) in
              omega (arith, rest, behind)
        ] refl

    pub values_within : (es fs : List (K × V)) → IsRising R entry_key es → AllByRecursion (λ c. c.0 < length es) (new_values R merged es fs)
    values_within es [] h = tt
    values_within es (f ∷ fs) h =
        elim (item_at R entry_key f.0 es) as (λ a. item_at R entry_key f.0 es ≡ a → AllByRecursion (λ c. c.0 < length es) (shared_value R merged (index_of R entry_key f.0 es) f.1 a ++ new_values R merged es fs)) [
          | None ↦ λ none. values_within es fs h
          | Some e ↦ λ here. (index_within f.0 es h (ap is_some here), values_within es fs h)
        ] refl
