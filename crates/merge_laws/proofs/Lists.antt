-- Lists that are split before their last item, and parts of ascending lists.
use Rattle.merge_laws.proofs.Shared.{◌≡◌, ℕ, ◌+◌, ◌<◌, get_or, List, [], ◌∷◌, ◌++◌, append-nil, take, length, Option, Some, None, refl, sym, ap, subst, ◌∙◌, every_append, reverse, option_or, AllByRecursion, flat_map, Ordering, Less, IsTotalOrder, reverse-append, reverse-reverse, take_more, flat_map-append, IsRising}
use Rattle.std.specs.List.Sorted.{IsStrictlySortedBy}

-- induction from the end of a list
pub from_end : {A : Type 0} (P : List A → Type 0) → P [] → ((xs : List A) (x : A) → P xs → P (xs ++ x ∷ [])) → (xs : List A) → P xs
from_end {A} P none more xs = subst P (reverse-reverse xs) (turned (reverse xs))
  where
    turned : (ys : List A) → P (reverse ys)
    turned [] = none
    turned (y ∷ ys) = subst P (sym (reverse-append (y ∷ []) ys)) (more (reverse ys) y (turned ys))

pub all_front : {A : Type 0} (P : A → Type 0) (xs ys : List A) → AllByRecursion P (xs ++ ys) → AllByRecursion P xs
all_front P [] ys h = tt
all_front P (x ∷ xs) ys h = (h.0, all_front P xs ys h.1)

pub all_back : {A : Type 0} (P : A → Type 0) (xs ys : List A) → AllByRecursion P (xs ++ ys) → AllByRecursion P ys
all_back P [] ys h = h
all_back P (x ∷ xs) ys h = all_back P xs ys h.1

pub all_weaker : {A : Type 0} (P Q : A → Type 0) (xs : List A) → ((x : A) → P x → Q x) → AllByRecursion P xs → AllByRecursion Q xs
all_weaker P Q [] f h = tt
all_weaker P Q (x ∷ xs) f h = (f x h.0, all_weaker P Q xs f h.1)

pub all_more : {A : Type 0} (P : A → Type 0) (xs : List A) (i : ℕ) (x : A) → i < length xs → x ≡ get_or xs i x → AllByRecursion P (take i xs) → P x → AllByRecursion P (take (i + 1) xs)
all_more P xs i x within is all p = subst (AllByRecursion P) (sym (take_more xs i x within ∙ ap (λ y. take i xs ++ y ∷ []) (sym is))) (every_append P (take i xs) (x ∷ []) all (p, tt))

pub flat_map_more : {A B : Type 0} (f : A → List B) (xs : List A) (i : ℕ) (x : A) → i < length xs → x ≡ get_or xs i x → flat_map f (take (i + 1) xs) ≡ flat_map f (take i xs) ++ f x
flat_map_more f xs i x within is =
    ap (flat_map f) (take_more xs i x within ∙ ap (λ y. take i xs ++ y ∷ []) (sym is))
    ∙ flat_map-append f (take i xs) (x ∷ [])
    ∙ ap (λ ys. flat_map f (take i xs) ++ ys) (append-nil (f x))

pub flat_map_next : {A B : Type 0} (f : A → List B) (xs : List A) (n m : ℕ) (x : A) → n < length xs → x ≡ get_or xs n x → m ≡ n + 1 → flat_map f (take n xs) ++ f x ≡ flat_map f (take m xs)
flat_map_next f xs n m x within is next = sym (flat_map_more f xs n x within is) ∙ ap (λ i. flat_map f (take i xs)) (sym next)

pub or_none : {A : Type 0} (a : Option A) → option_or a None ≡ a
or_none None = refl
or_none (Some x) = refl

module _ {K E : Type 0} {R : K → K → Ordering} (key : E → K) (o : IsTotalOrder R) where
  abbrev pub AllBelow : K → List E → Type 0
  AllBelow k = AllByRecursion (λ e. R (key e) k ≡ Less)

  pub rises_front : (xs ys : List E) → IsRising R key (xs ++ ys) → IsRising R key xs
  unfolding IsStrictlySortedBy
  rises_front [] ys h = tt
  rises_front (x ∷ xs) ys h = (all_front (λ f. R (key x) (key f) ≡ Less) xs ys h.0, rises_front xs ys h.1)

  pub rises_back : (xs ys : List E) → IsRising R key (xs ++ ys) → IsRising R key ys
  unfolding IsStrictlySortedBy
  rises_back [] ys h = h
  rises_back (x ∷ xs) ys h = rises_back xs ys h.1

  pub below_last : (xs : List E) (y : E) (zs : List E) → IsRising R key (xs ++ y ∷ zs) → AllBelow (key y) xs
  unfolding IsStrictlySortedBy
  below_last [] y zs h = tt
  below_last (x ∷ xs) y zs h = ((all_back (λ f. R (key x) (key f) ≡ Less) xs (y ∷ zs) h.0).0, below_last xs y zs h.1)

  -- ascending items below y, then y, then ascending items above y make an ascending list
  pub rises_around : (xs : List E) (y : E) (zs : List E) → IsRising R key xs → AllBelow (key y) xs → AllByRecursion (λ f. R (key y) (key f) ≡ Less) zs → IsRising R key zs → IsRising R key (xs ++ y ∷ zs)
  unfolding IsStrictlySortedBy
  rises_around [] y zs h below above g = (above, g)
  rises_around (x ∷ xs) y zs h below above g = (
    every_append (λ f. R (key x) (key f) ≡ Less) xs (y ∷ zs) h.0 (below.0, all_weaker (λ f. R (key y) (key f) ≡ Less) (λ f. R (key x) (key f) ≡ Less) zs (λ f. o.trans (key x) (key y) (key f) below.0) above),
    rises_around xs y zs h.1 below.1 above g,
  )
