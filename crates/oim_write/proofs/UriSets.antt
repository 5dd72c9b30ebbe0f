-- Adding the URIs of names to a set of URIs.
use Rattle.oim_write.proofs.Shared.{◌≡◌, ℕ, ◌+◌, ◌<◌, Bool, true, false, List, [], ◌∷◌, ◌++◌, length, get_or, take, append-nil, inl, inr, ⊎_elim, refl, sym, ap, subst, ◌∙◌, cond, Contains-append_left, Contains-append_right, Contains, flat_map, OnTrue, bytes_eq, map-append, take_more, QName, same_bytes, text_cmp, IsSet, SameMembers, HoldForUris, first_or_later, first_there, in_one_of_both, none_there, from_map, in_map, set_of_is_set, is_set_of, text_cmp_exact, text_cmp_total, uris_of_names, dimension_names, fact_names, uris, value_names, Gains, row_names, Equal-is, is_eq, dimensions_cmp, Fact, dimensions_cmp_exact}
use Rattle.std.proofs.lemmas.Grind.{flat_map-append}
use Rattle.fact_base.specs.Rows.{Row, before_rows, rows_of}
use Rattle.fact_base.specs.Sets.{set_of}

-- ---- the URIs that a set gains

pub gains_none : (us : List (List ℕ)) → Gains us [] us
gains_none us = record { members = λ u. (λ old. inl old, ⊎_elim (λ old. old) (none_there u)) }

pub gains_both : {a b c : List (List ℕ)} {ns ms : List QName} → Gains a ns b → Gains b ms c → Gains a (ns ++ ms) c
gains_both {a} {b} {c} {ns} {ms} first second = record {
  members = λ u.
      let of_both = in_one_of_both (uris_of_names ns) (uris_of_names ms) u in
      let are = map-append (λ (n : QName). n.uri) ns ms in (
        λ new. ⊎_elim
            (λ l. ⊎_elim inl (λ one. inr (subst (λ us. Contains us u) (sym are) (of_both.1 (inl one)))) ((first.members u).0 l))
            (λ one. inr (subst (λ us. Contains us u) (sym are) (of_both.1 (inr one))))
            ((second.members u).0 new),
        ⊎_elim
            (λ old. (second.members u).1 (inl ((first.members u).1 (inl old))))
            (λ one. ⊎_elim
            (λ l. (second.members u).1 (inl ((first.members u).1 (inr l))))
            (λ r. (second.members u).1 (inr r))
            (of_both.0 (subst (λ us. Contains us u) are one))),
      );
}

-- the name that is added last may be listed first
pub gains_last : {a b c : List (List ℕ)} {n : QName} {ns : List QName} → Gains a ns b → Gains b (n ∷ []) c → Gains a (n ∷ ns) c
gains_last {n = n} {ns} first second = record {
  members = λ u.
      let both = in_one_of_both (n.uri ∷ []) (uris_of_names ns) u in (
        λ new. ⊎_elim (λ l. ⊎_elim inl (λ r. inr (both.1 (inr r))) ((first.members u).0 l)) (λ r. inr (both.1 (inl r))) ((second.members u).0 new),
        ⊎_elim (λ old. (second.members u).1 (inl ((first.members u).1 (inl old)))) (λ h. ⊎_elim (λ r. (second.members u).1 (inr r)) (λ l. (second.members u).1 (inl ((first.members u).1 (inr l)))) (both.0 h)),
      );
}

-- one loop step adds the URIs of the next item's names
pub gains_more : {A : Type 0} (names : A → List QName) {a b c : List (List ℕ)} (xs : List A) (i : ℕ) (x : A) → i < length xs → x ≡ get_or xs i x
    → Gains a (flat_map names (take i xs)) b → Gains b (names x) c → Gains a (flat_map names (take (i + 1) xs)) c
gains_more names {a} {b} {c} xs i x within is first second =
    let behind : flat_map names (take (i + 1) xs) ≡ flat_map names (take i xs) ++ names x =
    ap (flat_map names) (take_more xs i x within ∙ ap (λ y. take i xs ++ y ∷ []) (sym is))
    ∙ flat_map-append names (take i xs) (x ∷ [])
    ∙ ap (λ ns. flat_map names (take i xs) ++ ns) (append-nil (names x)) in
    subst (λ ns. Gains a ns c) (sym behind) (gains_both first second)

pub gains_name : {a b c : List (List ℕ)} (ns : List QName) (i : ℕ) (n : QName) → i < length ns → n ≡ get_or ns i n
    → Gains a (take i ns) b → Gains b (n ∷ []) c → Gains a (take (i + 1) ns) c
gains_name {a} {b} {c} ns i n within is first second =
    subst (λ ms. Gains a ms c) (sym (take_more ns i n within ∙ ap (λ m. take i ns ++ m ∷ []) (sym is))) (gains_both first second)

-- ---- the URIs of concepts that a set contains already

pub gains_known : (us : List (List ℕ)) (n : QName) → Contains us n.uri → Gains us (n ∷ []) us
gains_known us n known = record {
  members = λ u. (λ old. inl old, ⊎_elim (λ old. old) (λ one. ⊎_elim (λ same. subst (Contains us) same known) (none_there u) (first_or_later n.uri [] u one)));
}

module _ {a b : List (List ℕ)} {ns : List QName} (gained : Gains a ns b) where
  pub still_known : (n : ℕ) (rs : List Row) → HoldForUris (Contains a) n rs → HoldForUris (Contains b) n rs
  still_known n rs known k d within = (gained.members _).1 (inl (known k d within))

pub known_by_run : {a b : List (List ℕ)} (n : ℕ) (rs : List Row) (name : QName) (uri : List ℕ) → Gains a (name ∷ []) b → uri ≡ name.uri → HoldForUris (λ u. u ≡ uri) n rs → HoldForUris (Contains b) n rs
known_by_run {a} {b} n rs name uri gained is run k d within =
    subst (Contains b) (sym (run k d within ∙ is)) ((gained.members name.uri).1 (inr (first_there name.uri [])))

-- ---- the set of a list of URIs

pub gains_one : (us : List (List ℕ)) (n : QName) → Gains (set_of text_cmp us) (n ∷ []) (set_of text_cmp (us ++ n.uri ∷ []))
gains_one us n =
    let old = set_of_is_set text_cmp_total text_cmp_exact us in
    let new = set_of_is_set text_cmp_total text_cmp_exact (us ++ n.uri ∷ []) in
    record {
      members = λ u.
          let both = in_one_of_both us (n.uri ∷ []) u in (
            λ h. ⊎_elim (λ l. inl ((old.members u).1 l)) inr (both.0 ((new.members u).0 h)),
            λ h. (new.members u).1 (both.1 (⊎_elim (λ l. inl ((old.members u).0 l)) inr h)),
          );
    }

pub in_set : (us : List (List ℕ)) (u : List ℕ) → Contains us u → Contains (set_of text_cmp us) u
in_set us u h = ((set_of_is_set text_cmp_total text_cmp_exact us).members u).1 h

-- if the URI at index i equals u, the set of the URIs contains u
pub told_there : (us : List (List ℕ)) (i : ℕ) (known u : List ℕ) (told : Bool) → told ≡ bytes_eq known u → i < length us → get_or us i u ≡ known → OnTrue told (Contains (set_of text_cmp us) u)
told_there us i known u true is within there = in_set us u (i, within, there ∙ same_bytes known u (sym is))
told_there us i known u false is within there = tt

pub set_rises : (us : List (List ℕ)) → IsSet text_cmp (set_of text_cmp us)
set_rises us = (set_of_is_set text_cmp_total text_cmp_exact us).rises

pub none_in_set : set_of text_cmp [] ≡ []
unfolding set_of
none_in_set = refl

-- ---- the names in rows are the names in the facts of the rows

module _ {A : Type 0} where
  by_part : {B : Type 0} (xs ys : List A) (x : A) → (Contains xs x → B) → (Contains ys x → B) → Contains (xs ++ ys) x → B
  by_part xs ys x f g h = ⊎_elim f g ((in_one_of_both xs ys x).0 h)

  -- repeating `d` before `w` does not change the members of the list
  said_once : (d v w rest : List A) → SameMembers ((d ++ (v ++ w)) ++ rest) ((d ++ v) ++ ((d ++ w) ++ rest))
  said_once d v w rest x = (
    by_part (d ++ (v ++ w)) rest x
        (by_part d (v ++ w) x
        (λ h. Contains-append_left (d ++ v) ((d ++ w) ++ rest) x (Contains-append_left d v x h))
        (by_part v w x
        (λ h. Contains-append_left (d ++ v) ((d ++ w) ++ rest) x (Contains-append_right d v x h))
        (λ h. Contains-append_right (d ++ v) ((d ++ w) ++ rest) x (Contains-append_left (d ++ w) rest x (Contains-append_right d w x h)))))
        (λ h. Contains-append_right (d ++ v) ((d ++ w) ++ rest) x (Contains-append_right (d ++ w) rest x h)),
    by_part (d ++ v) ((d ++ w) ++ rest) x
        (by_part d v x
        (λ h. Contains-append_left (d ++ (v ++ w)) rest x (Contains-append_left d (v ++ w) x h))
        (λ h. Contains-append_left (d ++ (v ++ w)) rest x (Contains-append_right d (v ++ w) x (Contains-append_left v w x h))))
        (by_part (d ++ w) rest x
        (by_part d w x
        (λ h. Contains-append_left (d ++ (v ++ w)) rest x (Contains-append_left d (v ++ w) x h))
        (λ h. Contains-append_left (d ++ (v ++ w)) rest x (Contains-append_right d (v ++ w) x (Contains-append_right v w x h))))
        (λ h. Contains-append_right (d ++ (v ++ w)) rest x h)),
  )

  same_behind : (xs ys zs : List A) → SameMembers ys zs → SameMembers (xs ++ ys) (xs ++ zs)
  same_behind xs ys zs same x = (
    by_part xs ys x (Contains-append_left xs zs x) (λ h. Contains-append_right xs zs x ((same x).0 h)),
    by_part xs zs x (Contains-append_left xs ys x) (λ h. Contains-append_right xs ys x ((same x).1 h)),
  )

alone : (f : Fact) → row_names (f.dimensions, f.value ∷ []) ≡ fact_names f
alone f = ap (λ ns. dimension_names f.dimensions ++ ns) (append-nil (value_names f.value))

before : (f : Fact) (rs : List Row) → SameMembers (flat_map row_names (before_rows f rs)) (fact_names f ++ flat_map row_names rs)
before f [] = subst (λ ns. SameMembers (ns ++ []) (fact_names f ++ [])) (sym (alone f)) (λ x. (λ h. h, λ h. h))
before f (r ∷ rs) = elim (is_eq (dimensions_cmp f.dimensions r.0)) as (λ b. is_eq (dimensions_cmp f.dimensions r.0) ≡ b → SameMembers (flat_map row_names (cond b ((r.0, f.value ∷ r.1) ∷ rs) ((f.dimensions, f.value ∷ []) ∷ r ∷ rs))) (fact_names f ++ flat_map row_names (r ∷ rs))) [
  | true ↦ λ t.
      subst (λ d. SameMembers ((dimension_names r.0 ++ (value_names f.value ++ flat_map value_names r.1)) ++ flat_map row_names rs) ((dimension_names d ++ value_names f.value) ++ ((dimension_names r.0 ++ flat_map value_names r.1) ++ flat_map row_names rs)))
      (sym (dimensions_cmp_exact f.dimensions r.0 ((Equal-is (dimensions_cmp f.dimensions r.0)).0 t)))
      (said_once (dimension_names r.0) (value_names f.value) (flat_map value_names r.1) (flat_map row_names rs))
  | false ↦ λ t. subst (λ ns. SameMembers (ns ++ flat_map row_names (r ∷ rs)) (fact_names f ++ flat_map row_names (r ∷ rs))) (sym (alone f)) (λ x. (λ h. h, λ h. h))
] refl

names_of_rows : (fs : List Fact) → SameMembers (flat_map row_names (rows_of fs)) (flat_map fact_names fs)
unfolding rows_of
names_of_rows [] x = (λ h. h, λ h. h)
names_of_rows (f ∷ fs) x =
    let here = before f (rows_of fs) x in
    let rest = same_behind (fact_names f) (flat_map row_names (rows_of fs)) (flat_map fact_names fs) (names_of_rows fs) x in
    (λ h. rest.0 (here.0 h), λ h. here.1 (rest.1 h))

same_uris : (ns ms : List QName) (u : List _) → ((n : QName) → Contains ns n → Contains ms n) → Contains (uris_of_names ns) u → Contains (uris_of_names ms) u
same_uris ns ms u to h =
    let found = from_map (λ (n : QName). n.uri) ns u h in
    subst (Contains (uris_of_names ms)) found.1.1 (in_map (λ (n : QName). n.uri) ms found.0 (to found.0 found.1.0))

pub uris_of_rows : (fs : List Fact) → SameMembers (uris_of_names (flat_map row_names (rows_of fs))) (uris_of_names (flat_map fact_names fs))
uris_of_rows fs u = (
  same_uris (flat_map row_names (rows_of fs)) (flat_map fact_names fs) u (λ n. (names_of_rows fs n).0),
  same_uris (flat_map fact_names fs) (flat_map row_names (rows_of fs)) u (λ n. (names_of_rows fs n).1),
)

pub uris_gained : (fs : List Fact) (set : List (List ℕ)) → IsSet text_cmp set → Gains [] (flat_map row_names (rows_of fs)) set → set ≡ uris fs
uris_gained fs set rises gained = is_set_of text_cmp_total text_cmp_exact set (uris_of_names (flat_map fact_names fs)) rises (λ u. (
  λ h. (uris_of_rows fs u).0 (⊎_elim (none_there u) (λ of_rows. of_rows) ((gained.members u).0 h)),
  λ h. (gained.members u).1 (inr ((uris_of_rows fs u).1 h)),
))
