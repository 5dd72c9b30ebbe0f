-- The result of a merge is the union.
use Rattle.merge_laws.proofs.Shared.{◌≡◌, ℕ, cond, List, [], ◌∷◌, ◌++◌, length, arith, Option, Some, None, Result, Ok, Err, OnOk, OnErr, refl, sym, ap, subst, ◌∙◌, reverse, option_or, Ordering, Equal, IsTotalOrder, inserted, new_items, new_values, with_values, IsRising, IsSet, IsMap, item_at, itself, entry_key, either_or_both, older, merged_entries, set_union, map_union, same_items, rises_union, item_at-union, set_closed, map_closed, map_commutes, on_ok_weaker}
use Rattle.merge_laws.proofs.Rising.{none_rise}
use Rattle.merge_laws.proofs.Taking.{takes_all}
use Rattle.merge_laws.proofs.Values.{revalued, IsRevalued, revalues_all}

older_or : {A : Type 0} (a b : Option A) → option_or a b ≡ either_or_both older a b
older_or (Some x) None = refl
older_or o b = refl

module _ {K : Type 0} {R : K → K → Ordering} (o : IsTotalOrder R) where
  pub set_taken : (xs ys : List K) → IsSet R xs → IsSet R ys → inserted xs (reverse (new_items R itself xs ys)) ≡ set_union R xs ys
  set_taken xs ys g h =
      let taken = takes_all itself o xs ys g h in
      same_items itself o _ _ taken.rises (rises_union itself o older (λ _ _. refl) xs ys g) (λ q.
      taken.at q ∙ older_or (item_at R itself q xs) (item_at R itself q ys) ∙ sym (item_at-union itself o older (λ _ _. refl) q xs ys g h))

  -- after a call that merges ys into the set xs, the items are a set, whether or not memory was refused
  pub set_stays : {A B : Type 0} (r : Result A B) (xs ys zs : List K) → IsSet R xs → IsSet R ys → OnOk r (zs ≡ set_union R xs ys) → OnErr r (zs ≡ xs) → IsSet R zs
  set_stays (Ok a) xs ys zs g h made kept = subst (IsSet R) (sym made) (set_closed o xs ys g h)
  set_stays (Err e) xs ys zs g h made kept = subst (IsSet R) (sym kept) g

module _ {K V : Type 0} {R : K → K → Ordering} (o : IsTotalOrder R) (merged : V → V → V) where
  revalued_or : (a b : Option (K × V)) → option_or (revalued o merged a b) b ≡ either_or_both (merged_entries merged) a b
  revalued_or (Some x) None = refl
  revalued_or o b = refl

  -- replacing values does not change which entries are new
  same_news : (es out fs : List (K × V)) → IsRevalued o merged es fs out → (gs : List (K × V)) → new_items R entry_key es gs ≡ new_items R entry_key out gs
  same_news es out fs is [] = refl
  same_news es out fs is (g ∷ gs) = λ n. cond (sym (is.has g.0) n) [] ((sym (is.index g.0) n, g) ∷ []) ++ same_news es out fs is gs n

  pub map_taken : (es fs : List (K × V)) → IsRising R entry_key es → IsRising R entry_key fs → inserted (with_values es (new_values R merged es fs)) (reverse (new_items R entry_key es fs)) ≡ map_union R merged es fs
  map_taken es fs g h =
      let out = with_values es (new_values R merged es fs) in
      let is = revalues_all o merged es fs g h in
      let taken = takes_all entry_key o out fs is.rises h in
      ap (λ ns. inserted out (reverse ns)) (same_news es out fs is fs)
      ∙ same_items entry_key o _ _ taken.rises (rises_union entry_key o (merged_entries merged) (λ _ _. refl) es fs g) (λ q.
      taken.at q
      ∙ ap (λ a. option_or a (item_at R entry_key q fs)) (is.at q)
      ∙ revalued_or (item_at R entry_key q es) (item_at R entry_key q fs)
      ∙ sym (item_at-union entry_key o (merged_entries merged) (λ _ _. refl) q es fs g h))

  -- the changes that another map makes, once they are made
  pub map_changed : {A B : Type 0} (r : Result A B) (es fs gs : List (K × V)) (values : List (ℕ × V)) (news : List (ℕ × (K × V))) → values ≡ new_values R merged es fs → news ≡ new_items R entry_key es fs → IsRising R entry_key es → IsRising R entry_key fs → OnOk r (gs ≡ inserted (with_values es values) (reverse news)) → OnOk r (gs ≡ map_union R merged es fs)
  map_changed r es fs gs values news is_values is_news g h =
      on_ok_weaker r (λ done. done ∙ (λ i. inserted (with_values es (is_values i)) (reverse (is_news i))) ∙ map_taken es fs g h)

  pub map_stays : {A B : Type 0} (P : V → Type 0) (closed : (v w : V) → P v → P w → P (merged v w)) (r : Result A B) (es fs gs : List (K × V)) → IsMap R P es → IsMap R P fs → OnOk r (gs ≡ map_union R merged es fs) → OnErr r (gs ≡ es) → IsMap R P gs
  map_stays P closed (Ok a) es fs gs g h made kept = subst (IsMap R P) (sym made) (map_closed o P merged closed es fs g h)
  map_stays P closed (Err e) es fs gs g h made kept = subst (IsMap R P) (sym kept) g

  pub map_of_other : (P : V → Type 0) → ((x y : K) → R x y ≡ Equal → x ≡ y) → ((v w : V) → P v → P w → merged v w ≡ merged w v) → (es fs : List (K × V)) → length es ≡ 0 → IsMap R P fs → map_union R merged es fs ≡ fs
  map_of_other P exact law [] fs none h = map_commutes o P merged exact law [] fs (record { rises = none_rise R entry_key; values = tt }) h
  map_of_other P exact law (e ∷ es) fs none h = absurd (omega (arith, none))
