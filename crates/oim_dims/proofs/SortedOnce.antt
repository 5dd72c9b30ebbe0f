-- Two lists that contain each item equally often are equal, if both are sorted by an order in which only equal items tie.
use Rattle.oim_dims.proofs.Shared.{◌≡◌, ℕ, suc, ◌+◌, Bool, true, false, cond, List, [], ◌∷◌, refl, sym, ap, ◌∙◌, arith, All, sum_by, count_by, IsSorted, IsPermutation, IsTotalOrder, is_lt, ordering_reverse, Ordering, Less, Equal, Greater, All-tail, sorted_far, ranks_by, sum_by-IsPermutation}
use Rattle.std.proofs.lemmas.List.Sums.{sum_by-cons}

none_counted : {X : Type 0} (p : X → Bool) (xs : List X) → All (λ x. p x ≡ false) xs → count_by p xs ≡ 0
none_counted p [] h = refl
none_counted p (x ∷ xs) h = sum_by-cons (λ y. cond (p y) 1 0) x xs ∙ rw (h 0 x (omega arith), none_counted p xs (All-tail (λ y. p y ≡ false) x xs h)) (omega arith)

first_uncounted : {X : Type 0} (p : X → Bool) (x : X) (xs : List X) → count_by p (x ∷ xs) ≡ 0 → p x ≡ false
first_uncounted p x xs h = not_one (p x) (sym (sum_by-cons (λ y. cond (p y) 1 0) x xs) ∙ h)
  where
    not_one : (b : Bool) → cond b 1 0 + count_by p xs ≡ 0 → b ≡ false
    not_one true e = absurd (omega arith)
    not_one false e = refl

pub sorted_rest : {X : Type 0} (R : X → X → Ordering) (x : X) (xs : List X) → IsSorted R (x ∷ xs) → IsSorted R xs
sorted_rest R x xs h k d low within = let e : suc k + 1 ≡ suc (k + 1) = omega arith in rw e at (h (suc k) d (omega arith) (omega arith))

module _ {X : Type 0} (R : X → X → Ordering) (o : IsTotalOrder R) (exact : (x y : X) → R x y ≡ Equal → x ≡ y) where
  neither_less : (x y : X) → is_lt (R x y) ≡ false → is_lt (R y x) ≡ false → x ≡ y
  neither_less x y h k =
      elim (R x y) as (λ r. R x y ≡ r → is_lt r ≡ false → x ≡ y) [
        | Less ↦ λ e l. absurd (cc)
        | Equal ↦ λ e l. exact x y e
        | Greater ↦ λ e l. let back : R y x ≡ Less = o.antisymm y x ∙ ap ordering_reverse e in absurd (cc (sym k ∙ ap is_lt back))
      ] refl h

  first_not_below : (x y : X) (xs ys : List X) → IsSorted R (y ∷ ys) → ((f : X → ℕ) → sum_by f (x ∷ xs) ≡ sum_by f (y ∷ ys)) → is_lt (R x y) ≡ false
  first_not_below x y xs ys sorted same =
      let above : All (λ e. is_lt (R e y) ≡ false) (y ∷ ys) = λ k d within. sorted_far _ (ranks_by o (λ e. e)) (y ∷ ys) sorted 0 k d (omega arith) within in
      first_uncounted (λ e. is_lt (R e y)) x xs (same (λ e. cond (is_lt (R e y)) 1 0) ∙ none_counted (λ e. is_lt (R e y)) (y ∷ ys) above)

  same_sums : (xs ys : List X) → IsSorted R xs → IsSorted R ys → ((f : X → ℕ) → sum_by f xs ≡ sum_by f ys) → xs ≡ ys
  same_sums [] [] sx sy same = refl
  same_sums [] (y ∷ ys) sx sy same = absurd (omega (arith, same (λ e. 1), sum_by-cons (λ e. 1) y ys))
  same_sums (x ∷ xs) [] sx sy same = absurd (omega (arith, same (λ e. 1), sum_by-cons (λ e. 1) x xs))
  same_sums (x ∷ xs) (y ∷ ys) sx sy same =
      let one : x ≡ y = neither_less x y (first_not_below x y xs ys sy same) (first_not_below y x ys xs sx (λ f. sym (same f))) in
      let rest : xs ≡ ys = same_sums xs ys (sorted_rest R x xs sx) (sorted_rest R y ys sy) (λ f. let heads : f x ≡ f y = ap f one in omega (arith, heads, same f, sum_by-cons f x xs, sum_by-cons f y ys)) in
      λ i. one i ∷ rest i

  pub sorted_once : (xs ys zs : List X) → IsPermutation zs xs → IsPermutation zs ys → IsSorted R xs → IsSorted R ys → xs ≡ ys
  sorted_once xs ys zs p q sx sy = same_sums xs ys sx sy (λ f. sum_by-IsPermutation f zs xs p ∙ sym (sum_by-IsPermutation f zs ys q))
