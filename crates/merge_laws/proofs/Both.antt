-- The items of a union, and look-ups in sets and maps.
use Rattle.merge_laws.proofs.Shared.{◌≡◌, Bool, true, false, cond, List, [], ◌∷◌, Option, Some, None, refl, sym, ap, ◌∙◌, inl, inr, ⊎_elim, ℕ, zero, suc, ◌<◌, length, get_or, subst, arith, ◌||◌, true≢false, Contains, is_some, unwrap_or, option_map, list_any, eq_by_cmp, is_eq, Ordering, Equal, IsTotalOrder, Equal-is, eq_by_cmp_equiv, tied_itself, or_cases, or_left, or_right, IsSet, item_at, has_key, itself, entry_key, value_at, IsRising, either_or_both, older, merged_entries, set_with, set_union, IsSetOfBoth, SetUnionHasBoth, SetWithHasItem, MapTellsEntry, MapUnionHasBoth, MapWithMerges, SetTellsItem, alone, rises_with, rises_union, item_at-with, item_at-union}
use Rattle.std.proofs.lemmas.Map.Views.{Contains-from_any, list_any-from_Contains}
use Rattle.merge_laws.proofs.Edits.{item_found}
use Rattle.merge_laws.proofs.Indices.{found_here}

found_some : {A : Type 0} (p : A → Bool) (xs : List A) → is_some (Rattle.std.specs.List.find p xs) ≡ list_any p xs
found_some p [] = refl
found_some p (x ∷ xs) = elim (p x) as (λ b. is_some (cond b (Some x) (Rattle.std.specs.List.find p xs)) ≡ (b || list_any p xs)) [ true ↦ refl | false ↦ found_some p xs ]

some_of_both : {A : Type 0} (join : A → A → A) (a b : Option A) → is_some (either_or_both join a b) ≡ (is_some a || is_some b)
some_of_both join (Some x) None = refl
some_of_both join o b = refl

module _ {K : Type 0} {R : K → K → Ordering} (o : IsTotalOrder R) (exact : (x y : K) → R x y ≡ Equal → x ≡ y) where
  there : (xs : List K) (x : K) → has_key R itself x xs ≡ true → Contains xs x
  there xs x has = Contains-from_any (λ x y e. exact x y ((Equal-is (R x y)).0 e)) x xs (sym (found_some (eq_by_cmp R x) xs) ∙ has)

  tested : (xs : List K) (x : K) → Contains xs x → has_key R itself x xs ≡ true
  tested xs x one = found_some (eq_by_cmp R x) xs ∙ list_any-from_Contains (eq_by_cmp_equiv o) x xs one

  of_both : (xs ys set : List K) → IsSet R set → ((q : K) → has_key R itself q set ≡ (has_key R itself q xs || has_key R itself q ys)) → IsSetOfBoth R xs ys set
  of_both xs ys set h has = record {
    rises = h;
    members = λ x. (
      λ one. ⊎_elim (λ l. inl (there xs x l)) (λ r. inr (there ys x r)) (or_cases _ _ (sym (has x) ∙ tested set x one)),
      ⊎_elim (λ l. there set x (has x ∙ or_left _ _ (tested xs x l))) (λ r. there set x (has x ∙ or_right _ _ (tested ys x r))),
    );
  }

  pub set_tells_item : SetTellsItem R
  set_tells_item xs x = (there xs x, tested xs x)

  pub set_union_has_both : SetUnionHasBoth R
  set_union_has_both xs ys g h = of_both xs ys (set_union R xs ys) (rises_union itself o older (λ _ _. refl) xs ys g) (λ q.
      ap is_some (item_at-union itself o older (λ _ _. refl) q xs ys g h) ∙ some_of_both older (item_at R itself q xs) (item_at R itself q ys))

  pub set_with_has_item : SetWithHasItem R
  set_with_has_item xs x g = of_both xs (x ∷ []) (set_with R x xs) (rises_with itself o older (λ _ _. refl) x xs g) (λ q.
      ap is_some (item_at-with itself o older (λ _ _. refl) q x xs g)
      ∙ elim (is_eq (R q x)) as (λ b. is_some (cond b (either_or_both older (item_at R itself q xs) (Some x)) (item_at R itself q xs)) ≡ (is_some (item_at R itself q xs) || is_some (cond b (Some x) None))) [
        | true ↦ some_of_both older (item_at R itself q xs) (Some x)
        | false ↦ or_false (is_some (item_at R itself q xs))
      ])
    where
      or_false : (b : Bool) → b ≡ (b || false)
      or_false true = refl
      or_false false = refl

value_of : {K V : Type 0} (merged : V → V → V) (a b : Option (K × V)) → option_map (λ e. e.1) (either_or_both (merged_entries merged) a b) ≡ either_or_both merged (option_map (λ e. e.1) a) (option_map (λ e. e.1) b)
value_of merged (Some x) None = refl
value_of merged o b = refl

module _ {K V : Type 0} {R : K → K → Ordering} (o : IsTotalOrder R) (merged : V → V → V) where
  pub map_union_has_both : MapUnionHasBoth R merged
  map_union_has_both es fs g h = record {
    rises = rises_union entry_key o (merged_entries merged) (λ _ _. refl) es fs g;
    values = λ k. ap (λ (a : Option (K × V)). option_map (λ e. e.1) a) (item_at-union entry_key o (merged_entries merged) (λ _ _. refl) k es fs g h) ∙ value_of merged (item_at R entry_key k es) (item_at R entry_key k fs);
  }

  pub map_with_merges : MapWithMerges R merged
  map_with_merges es k v g = record {
    rises = rises_with entry_key o (merged_entries merged) (λ _ _. refl) (k, v) es g;
    values = λ q. ap (λ (a : Option (K × V)). option_map (λ e. e.1) a) (item_at-with entry_key o (merged_entries merged) (λ _ _. refl) q (k, v) es g)
        ∙ elim (is_eq (R q k)) as (λ b. option_map (λ (e : K × V). e.1) (cond b (either_or_both (merged_entries merged) (item_at R entry_key q es) (Some (k, v))) (item_at R entry_key q es)) ≡ either_or_both merged (value_at R q es) (option_map (λ (e : K × V). e.1) (cond b (Some (k, v)) None))) [
          | true ↦ value_of merged (item_at R entry_key q es) (Some (k, v))
          | false ↦ sym (alone merged (value_at R q es))
        ];
  }

module _ {K V : Type 0} {R : K → K → Ordering} (o : IsTotalOrder R) (exact : (x y : K) → R x y ≡ Equal → x ≡ y) (merged : V → V → V) where
  found_entry : (k : K) (es : List (K × V)) (e : K × V) → item_at R entry_key k es ≡ Some e → Contains es e × (k ≡ e.0)
  found_entry k [] e is = absurd (true≢false (sym (ap is_some is)))
  found_entry k (f ∷ es) e is = elim (is_eq (R k f.0)) as (λ b. is_eq (R k f.0) ≡ b → cond b (Some f) (item_at R entry_key k es) ≡ Some e → Contains (f ∷ es) e × (k ≡ e.0)) [
    | true ↦ λ t here. let same : f ≡ e = ap (λ a. unwrap_or a f) here in ((zero, omega arith, same), exact k f.0 ((Equal-is (R k f.0)).0 t) ∙ ap (λ x. x.0) same)
    | false ↦ λ t here. let rest = found_entry k es e here in ((suc rest.0.0, omega (arith, rest.0.1), rest.0.2), rest.1)
  ] refl is

  entry_found : (k : K) (v : V) (es : List (K × V)) → IsRising R entry_key es → (i : ℕ) → i < length es → get_or es i (k, v) ≡ (k, v) → item_at R entry_key k es ≡ Some (k, v)
  entry_found k v es h i within is =
      let tied : R (get_or es i (k, v)).0 k ≡ Equal = ap (λ (e : K × V). R e.0 k) is ∙ tied_itself o k in
      item_found entry_key o k es i (k, v) h (found_here entry_key o es k i (k, v) h within tied) ∙ ap Some is

  pub map_tells_entry : MapTellsEntry R merged
  map_tells_entry es k v h = (
    λ told. one_found (item_at R entry_key k es) refl told,
    λ one. ap (λ (a : Option (K × V)). option_map (λ e. e.1) a) (entry_found k v es h one.0 one.1 one.2),
  )
    where
      one_found : (a : Option (K × V)) → item_at R entry_key k es ≡ a → option_map (λ (e : K × V). e.1) a ≡ Some v → Contains es (k, v)
      one_found None is told = absurd (true≢false (sym (ap is_some told)))
      one_found (Some e) is told =
          let found = found_entry k es e is in
          let value : e.1 ≡ v = ap (λ a. unwrap_or a e.1) told in
          subst (Contains es) (λ n. (sym found.1 n, value n)) found.0
