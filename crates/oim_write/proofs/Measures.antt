-- Names in order whose first and last have one URI, and the URIs that a set gains from them.
use Rattle.oim_write.proofs.Shared.{◌≡◌, ℕ, ◌<◌, ◌≤◌, ◌-◌, false, List, [], ◌∷◌, length, get_or, inl, inr, ⊎_elim, refl, sym, ap, subst, ◌∙◌, arith, Contains, IsSorted, is_lt, ordering_reverse, ordering_then, Ordering, Less, Equal, Greater, get_or_default, All-contains, ranks_by, sorted_far, QName, text_cmp, first_there, from_map, in_map, first_or_later, none_there, text_cmp_exact, text_cmp_total, uris_of_names, Gains, ShareUri}
use Rattle.oim_names.specs.contracts.name.NameOrd.TheImpl.Laws.{total-law as names_total}
use Rattle.oim_value.specs.ValueOrder.{name_cmp}

first_not_less : (a b : Ordering) → is_lt (ordering_then a b) ≡ false → is_lt a ≡ false
first_not_less Less b h = h
first_not_less Equal b h = refl
first_not_less Greater b h = refl

-- only an equal text is not less, either way
same_text : (x y : List ℕ) → is_lt (text_cmp x y) ≡ false → is_lt (text_cmp y x) ≡ false → x ≡ y
same_text x y h k =
    elim (text_cmp x y) as (λ r. text_cmp x y ≡ r → is_lt r ≡ false → x ≡ y) [
      | Less ↦ λ e l. absurd (cc)
      | Equal ↦ λ e l. text_cmp_exact x y e
      | Greater ↦ λ e l. let back : text_cmp y x ≡ Less = text_cmp_total.antisymm y x ∙ ap ordering_reverse e in absurd (cc (sym k ∙ ap is_lt back))
    ] refl h

module _ (ns : List QName) (sorted : IsSorted name_cmp ns) where
  not_less : (i j : ℕ) (d : QName) → i ≤ j → j < length ns → is_lt (text_cmp (get_or ns j d).uri (get_or ns i d).uri) ≡ false
  not_less i j d order within = first_not_less _ _ (sorted_far _ (ranks_by names_total (λ n. n)) ns sorted i j d order within)

  pub share_uri : (first last : QName) → 0 < length ns → first ≡ get_or ns 0 first → last ≡ get_or ns (length ns - 1) last → first.uri ≡ last.uri → ShareUri first ns
  share_uri first last some is_first is_last same = record {
    among = (0, some, sym is_first);
    all = λ k d within.
        let low : first ≡ get_or ns 0 d = is_first ∙ get_or_default ns 0 first d some in
        let high : last ≡ get_or ns (length ns - 1) d = is_last ∙ get_or_default ns (length ns - 1) last d (omega (arith, some)) in
        same_text _ _
        (ap (λ u. is_lt (text_cmp (get_or ns k d).uri u)) (ap (λ (n : QName). n.uri) low) ∙ not_less 0 k d (omega arith) within)
        (ap (λ u. is_lt (text_cmp u (get_or ns k d).uri)) (same ∙ ap (λ (n : QName). n.uri) high) ∙ not_less k (length ns - 1) d (omega (arith, within)) (omega (arith, some)));
  }

pub gains_shared : {a b : List (List ℕ)} {n : QName} {ns : List QName} → ShareUri n ns → Gains a (n ∷ []) b → Gains a ns b
gains_shared {n = n} {ns} share gained = record {
  members = λ u. (
    λ new. ⊎_elim inl
        (λ one. ⊎_elim (λ same. inr (subst (Contains (uris_of_names ns)) same (in_map (λ (m : QName). m.uri) ns n share.among))) (none_there u) (first_or_later n.uri [] u one))
        ((gained.members u).0 new),
    ⊎_elim
        (λ old. (gained.members u).1 (inl old))
        (λ there.
        let found = from_map (λ (m : QName). m.uri) ns u there in
        let one : n.uri ≡ u = sym (All-contains (λ (m : QName). m.uri ≡ n.uri) ns found.0 share.all found.1.0) ∙ found.1.1 in
        (gained.members u).1 (inr (subst (Contains (n.uri ∷ [])) one (first_there n.uri [])))),
  );
}
