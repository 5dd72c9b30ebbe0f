-- The index at which a member is inserted among members in the order of names.
use Rattle.oim_dims.proofs.Shared.{◌≡◌, ◌⊎◌, inl, inr, ℕ, zero, suc, ◌<◌, true, false, List, [], ◌∷◌, ◌++◌, length, get_or, take, drop, refl, subst, sym, ap, ◌∙◌, arith, if◌then◌else◌, Result, Ok, Err, OnOk, OnErr, Contains, IsTrue, and_parts, false_from_ne_true, insert, is_lt, is_eq, ordering_reverse, Ordering, Less, Equal, Greater, tied_itself, drop-cons, or-true, QName, exact_name, name_total, Member, name_cmp, is_below, rises, has_name, with_member, MembersGrow, NamesAreThere}
use Rattle.oim_value.proofs.Members.{first_or_later, later_there}

-- the name belongs at index i or later
pub record IsPast (n : QName) (es : List (QName × Member)) (i : ℕ) : Type 0 where
  pub split : (m : Member) → with_member n m es ≡ take i es ++ with_member n m (drop i es)
  pub none : has_name n es ≡ has_name n (drop i es)
  pub rising : rises (drop i es) ≡ true

pub less_is : (o : Ordering) → is_lt o ≡ true → o ≡ Less
less_is Less h = refl
less_is r h = cc

below_none : (n k : QName) (es : List (QName × Member)) → name_cmp n k ≡ Less → is_below k es ≡ true → has_name n es ≡ false
below_none n k [] less h = refl
below_none n k (e ∷ es) less h =
    let b = and_parts (is_lt (name_cmp k e.0)) (is_below k es) h in
    let here : name_cmp n e.0 ≡ Less = name_total.trans n k e.0 less (less_is _ b.0) in
    rw here (below_none n k es less b.1)

pub below_here : (n : QName) (es : List (QName × Member)) (i : ℕ) (e : QName × Member) → i < length es → e ≡ get_or es i e → name_cmp n e.0 ≡ Less → IsPast n es i → has_name n es ≡ false
below_here n es i e within is less h =
    let here : drop i es ≡ e ∷ drop (suc i) es = drop-cons es i e within ∙ ap (λ x. x ∷ drop (suc i) es) (sym is) in
    let rest = and_parts (is_below e.0 (drop (suc i) es)) (rises (drop (suc i) es)) (rw here at h.rising) in
    h.none ∙ rw (here, less) (below_none n e.0 (drop (suc i) es) less rest.0)

pub below_all : (n k : QName) (es : List (QName × Member)) → name_cmp n k ≡ Less → is_below k es ≡ true → is_below n es ≡ true
below_all n k [] less h = refl
below_all n k (e ∷ es) less h =
    let b = and_parts (is_lt (name_cmp k e.0)) (is_below k es) h in
    let here : name_cmp n e.0 ≡ Less = name_total.trans n k e.0 less (less_is _ b.0) in
    rw here (below_all n k es less b.1)

below_with : (k n : QName) (m : Member) (es : List (QName × Member)) → name_cmp k n ≡ Less → is_below k es ≡ true → is_below k (with_member n m es) ≡ true
below_with k n m [] less h = rw less refl
below_with k n m (e ∷ es) less h =
    elim (is_lt (name_cmp n e.0)) as (λ b. is_below k (if b then (n, m) ∷ e ∷ es else e ∷ with_member n m es) ≡ true) [
      | true ↦ rw less h
      | false ↦ let b = and_parts (is_lt (name_cmp k e.0)) (is_below k es) h in rw (b.0, below_with k n m es less b.1) refl
    ]

pub rises_with : (n : QName) (m : Member) (es : List (QName × Member)) → rises es ≡ true → has_name n es ≡ false → rises (with_member n m es) ≡ true
rises_with n m [] h none = refl
rises_with n m (e ∷ es) h none =
    let b = and_parts (is_below e.0 es) (rises es) h in
    elim (name_cmp n e.0) as (λ o. name_cmp n e.0 ≡ o → rises (with_member n m (e ∷ es)) ≡ true) [
      | Less ↦ λ o. rw o (rw (o, b.0, b.1, below_all n e.0 es o b.0) refl)
      | Equal ↦ λ o. absurd (cc (rw o at none))
      | Greater ↦ λ o.
          let back : name_cmp e.0 n ≡ Less = name_total.antisymm e.0 n ∙ ap ordering_reverse o in
          rw (o, below_with e.0 n m es back b.0, rises_with n m es b.1 (rw o at none)) refl
    ] refl

-- after a call that inserts a new name, the names ascend, whether or not memory was refused
pub still_rises : {T E : Type 0} (r : Result T E) (new es : List (QName × Member)) (index : ℕ) (n : QName) (m : Member) → rises es ≡ true → (has_name n es ≡ true → ⊥) → insert es index (n, m) ≡ with_member n m es → OnOk r (new ≡ insert es index (n, m)) → OnErr r (new ≡ es) → rises new ≡ true
still_rises (Ok x) new es index n m h none is ok err = rw (ok, is) (rises_with n m es h (false_from_ne_true (has_name n es) none))
still_rises (Err e) new es index n m h none is ok err = rw err h

there : (n : QName) (es : List (QName × Member)) → IsTrue (has_name n es) → (m : Member) × Contains es (n, m)
there n [] h = absurd (cc)
there n (e ∷ es) h =
    elim (name_cmp n e.0) as (λ r. name_cmp n e.0 ≡ r → (m : Member) × Contains (e ∷ es) (n, m)) [
      | Less ↦ λ o. later (there n es (rw o at h))
      | Equal ↦ λ o. (e.1, (0, omega arith, λ i. (sym (exact_name n e.0 o) i, e.1)))
      | Greater ↦ λ o. later (there n es (rw o at h))
    ] refl
  where
    later : ((m : Member) × Contains es (n, m)) → (m : Member) × Contains (e ∷ es) (n, m)
    later found = (found.0, (suc found.1.0, omega (arith, found.1.1), found.1.2))

here_at : (n : QName) (es : List (QName × Member)) (m : Member) (k : ℕ) → k < length es → get_or es k (n, m) ≡ (n, m) → has_name n es ≡ true
here_at n [] m k within is = absurd (omega arith)
here_at n (e ∷ es) m zero within is = let tie : name_cmp n e.0 ≡ Equal = ap (λ (f : QName × Member). name_cmp n f.0) is ∙ tied_itself name_total n in rw tie refl
here_at n (e ∷ es) m (suc k) within is = rw (here_at n es m k (omega arith) is) (or-true (is_eq (name_cmp n e.0)))

pub names_are_there : NamesAreThere
names_are_there n es = (there n es, λ found. here_at n es found.0 found.1.0 found.1.1 found.1.2)

head_is : (e f : QName × Member) (es : List (QName × Member)) → e ≡ f → Contains (e ∷ es) f
head_is e f es is = (0, omega arith, is)

pub old_or_new : (n : QName) (m : Member) (f : QName × Member) (es : List (QName × Member)) → Contains (with_member n m es) f → Contains es f ⊎ (f ≡ (n, m))
old_or_new n m f [] c = elim (first_or_later (n, m) [] f c) [ inl is ↦ inr (sym is) | inr none ↦ absurd (omega (arith, none.1)) ]
old_or_new n m f (e ∷ es) c =
    elim (is_lt (name_cmp n e.0)) as (λ b. Contains (if b then (n, m) ∷ e ∷ es else e ∷ with_member n m es) f → Contains (e ∷ es) f ⊎ (f ≡ (n, m))) [
      | true ↦ λ d. elim (first_or_later (n, m) (e ∷ es) f d) [ inl is ↦ inr (sym is) | inr old ↦ inl old ]
      | false ↦ λ d. elim (first_or_later e (with_member n m es) f d) [
        | inl is ↦ inl (head_is e f es is)
        | inr more ↦ elim (old_or_new n m f es more) [ inl old ↦ inl (later_there e es f old) | inr is ↦ inr is ]
      ]
    ] c

pub old_is_kept : (n : QName) (m : Member) (f : QName × Member) (es : List (QName × Member)) → Contains es f → Contains (with_member n m es) f
old_is_kept n m f [] c = absurd (omega (arith, c.1))
old_is_kept n m f (e ∷ es) c =
    elim (is_lt (name_cmp n e.0)) as (λ b. Contains (if b then (n, m) ∷ e ∷ es else e ∷ with_member n m es) f) [
      | true ↦ later_there (n, m) (e ∷ es) f c
      | false ↦ elim (first_or_later e es f c) [ inl is ↦ head_is e f (with_member n m es) is | inr old ↦ later_there e (with_member n m es) f (old_is_kept n m f es old) ]
    ]

pub new_is_there : (n : QName) (m : Member) (es : List (QName × Member)) → Contains (with_member n m es) (n, m)
new_is_there n m [] = head_is (n, m) (n, m) [] refl
new_is_there n m (e ∷ es) =
    elim (is_lt (name_cmp n e.0)) as (λ b. Contains (if b then (n, m) ∷ e ∷ es else e ∷ with_member n m es) (n, m)) [
      | true ↦ head_is (n, m) (n, m) (e ∷ es) refl
      | false ↦ later_there e (with_member n m es) (n, m) (new_is_there n m es)
    ]

pub members_grow : MembersGrow
members_grow n m es h none = record {
  rises = rises_with n m es h (false_from_ne_true (has_name n es) none);
  members = λ f. (
    old_or_new n m f es,
    λ known. elim known [
      | inl old ↦ old_is_kept n m f es old
      | inr is ↦ subst (Contains (with_member n m es)) (sym is) (new_is_there n m es)
    ],
  );
}
