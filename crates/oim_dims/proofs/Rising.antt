-- Names ascend exactly if the members are sorted and no name is repeated.
use Rattle.oim_dims.proofs.Shared.{◌≡◌, ℕ, suc, ◌+◌, ◌<◌, Bool, true, false, List, [], ◌∷◌, length, get_or, drop, add-one, refl, sym, ap, ◌∙◌, arith, ◌&&◌, IsPermutation, IsSorted, is_lt, is_eq, ordering_then, ordering_reverse, Ordering, Less, Equal, Greater, drop-cons, and_parts, or_parts, or_from, IsPermutation-sym, and-false, QName, name_total, Member, name_cmp, is_below, rises, repeats, has_name}
use Rattle.std.specs.List.{IsDistinct, AllByRecursion}
use Rattle.std.proofs.lemmas.Map.Keys.{IsDistinct-IsPermutation}
use Rattle.oim_dims.specs.contracts.member.MemberOrd.TheImpl.{cmp-value as derived_member}
use Rattle.oim_dims.proofs.Indices.{below_all, less_is}
use Rattle.oim_dims.proofs.SortedOnce.{sorted_rest}

abbrev Item : Type 0
Item = QName × Member

-- dimensions with their members are ordered by name, then by member
abbrev pub item_order : Item → Item → Ordering
item_order x y = ordering_then (name_cmp x.0 y.0) (derived_member.it x.1 y.1)

-- ---- neighbours

pub rises_behind : (e f : Item) (es : List Item) → is_lt (name_cmp e.0 f.0) ≡ true → rises (e ∷ f ∷ es) ≡ rises (f ∷ es)
rises_behind e f es lesser =
    ap (λ b. (b && is_below e.0 es) && (is_below f.0 es && rises es)) lesser
    ∙ elim (is_below f.0 es) as (λ b. is_below f.0 es ≡ b → (is_below e.0 es && (b && rises es)) ≡ (b && rises es)) [
      | true ↦ λ h. ap (λ b. b && rises es) (below_all e.0 f.0 es (less_is _ lesser) h)
      | false ↦ λ h. and-false (is_below e.0 es)
    ] refl

pub falls_behind : (e f : Item) (es : List Item) → is_lt (name_cmp e.0 f.0) ≡ false → rises (e ∷ f ∷ es) ≡ false
falls_behind e f es no_lesser = ap (λ b. (b && is_below e.0 es) && (is_below f.0 es && rises es)) no_lesser

pub at_index : (es : List Item) (i : ℕ) (e : Item) → i < length es → e ≡ get_or es i e → drop i es ≡ e ∷ drop (i + 1) es
at_index es i e within is = rw add-one (drop-cons es i e within ∙ ap (λ x. x ∷ drop (suc i) es) (sym is))

-- ---- repeated names

abbrev same_name : Item → Item → Bool
same_name x y = is_eq (name_cmp x.0 y.0)

pub same_back : (o : Ordering) → is_eq (ordering_reverse o) ≡ is_eq o
same_back Less = refl
same_back r = refl

same_flips : (x y : Item) → same_name x y ≡ same_name y x
same_flips x y = ap is_eq (name_total.antisymm x.0 y.0) ∙ same_back (name_cmp y.0 x.0)

all_differ : (e : Item) (es : List Item) → has_name e.0 es ≡ false → AllByRecursion (λ y. same_name e y ≡ false) es
all_differ e [] h = tt
all_differ e (f ∷ es) h = let b = or_parts (same_name e f) (has_name e.0 es) h in (b.0, all_differ e es b.1)

none_named : (e : Item) (es : List Item) → AllByRecursion (λ y. same_name e y ≡ false) es → has_name e.0 es ≡ false
none_named e [] h = refl
none_named e (f ∷ es) h = or_from (same_name e f) (has_name e.0 es) h.0 (none_named e es h.1)

distinct : (es : List Item) → repeats es ≡ false → IsDistinct same_name es
unfolding IsDistinct
distinct [] h = tt
distinct (e ∷ es) h = let b = or_parts (has_name e.0 es) (repeats es) h in (all_differ e es b.0, distinct es b.1)

not_repeated : (es : List Item) → IsDistinct same_name es → repeats es ≡ false
unfolding IsDistinct
not_repeated [] h = refl
not_repeated (e ∷ es) h = or_from (has_name e.0 es) (repeats es) (none_named e es h.0) (not_repeated es h.1)

pub repeats_moved : (xs ys : List Item) → IsPermutation xs ys → repeats xs ≡ false → repeats ys ≡ false
repeats_moved xs ys moved h = not_repeated ys (IsDistinct-IsPermutation same_name same_flips xs ys moved (distinct xs h))

-- ---- in order

below_differs : (n : QName) (es : List Item) → is_below n es ≡ true → has_name n es ≡ false
below_differs n [] h = refl
below_differs n (e ∷ es) h =
    let b = and_parts (is_lt (name_cmp n e.0)) (is_below n es) h in
    or_from (is_eq (name_cmp n e.0)) (has_name n es) (ap is_eq (less_is _ b.0)) (below_differs n es b.1)

pub rises_once : (es : List Item) → rises es ≡ true → repeats es ≡ false
rises_once [] h = refl
rises_once (e ∷ es) h =
    let b = and_parts (is_below e.0 es) (rises es) h in
    or_from (has_name e.0 es) (repeats es) (below_differs e.0 es b.0) (rises_once es b.1)

pub once_rises : (es : List Item) → IsSorted item_order es → repeats es ≡ false → rises es ≡ true
once_rises (e ∷ f ∷ es) sorted h =
    let b = or_parts (has_name e.0 (f ∷ es)) (repeats (f ∷ es)) h in
    elim (name_cmp e.0 f.0) as (λ o. name_cmp e.0 f.0 ≡ o → rises (e ∷ f ∷ es) ≡ true) [
      | Less ↦ λ o. rises_behind e f es (ap is_lt o) ∙ once_rises (f ∷ es) (sorted_rest item_order e (f ∷ es) sorted) b.1
      | Equal ↦ λ o. absurd (let differ = (or_parts (same_name e f) (has_name e.0 es) b.0).0 in cc (rw o at differ))
      | Greater ↦ λ o.
          let back : name_cmp f.0 e.0 ≡ Less = name_total.antisymm f.0 e.0 ∙ ap ordering_reverse o in
          absurd (let apart : is_lt (item_order f e) ≡ false = sorted 0 e (omega arith) (omega arith) in cc (rw back at apart))
    ] refl
once_rises xs sorted h = refl

pub once_where_it_rises : (es sorted : List Item) → IsPermutation es sorted → rises sorted ≡ true → repeats es ≡ false
once_where_it_rises es sorted moved up = repeats_moved sorted es (IsPermutation-sym es sorted moved) (rises_once sorted up)

pub repeated_where_it_does_not : (es sorted : List Item) → IsPermutation es sorted → IsSorted item_order sorted → rises sorted ≡ false → repeats es ≡ true
repeated_where_it_does_not es sorted moved in_order falls =
    elim (repeats es) as (λ b. repeats es ≡ b → b ≡ true) [
      | true ↦ λ h. refl
      | false ↦ λ h. let up = once_rises sorted in_order (repeats_moved es sorted moved h) in cc
    ] refl
