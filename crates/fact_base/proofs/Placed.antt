-- Items that are brought into the order of a list of their indices.
use Rattle.fact_base.proofs.Shared.{◌≡◌, ℕ, ◌+◌, ◌<◌, List, [], ◌∷◌, All, Some, IsPermutation, IsSorted, get_or, length, map, slice_get, refl, sym, ap, subst, ◌∙◌, arith, range_with_len, option_cmp, is_lt, Ordering, get_or-map, length-map, All-from_get_or, All-permutation, IsPermutation-map, IsPermutation-refl, length_permutation, slice_get-get_or}
use Rattle.std.proofs.lemmas.List.FromFn.{fill_by_all, get_or-range_with_len, length-range_with_len}
use Rattle.merge_laws.specs.Picked.{picked}

start : (k : ℕ) → k ≡ 0 + k
start k = omega arith

shuffled : {E : Type 0} (from : List E) (indices : List ℕ) (d : E) → IsPermutation (range_with_len 0 (length from)) indices → IsPermutation from (picked 0 d from indices)
shuffled {E} from indices d whole =
    let n : ℕ = length from in
    let at : ℕ → E = λ k. get_or from (0 + k) d in
    let all : from ≡ map at (range_with_len 0 n) = fill_by_all at from n d refl (λ k within. ap (λ i. get_or from i d) (start k)) in
    subst (λ es. IsPermutation es (map at indices)) (sym all) (IsPermutation-map at (range_with_len 0 n) indices whole)

pub picked_moved : {E : Type 0} (from now : List E) (indices : List ℕ) → IsPermutation (range_with_len 0 (length from)) indices → ((d : E) → now ≡ picked 0 d from indices) → IsPermutation from now
picked_moved [] [] indices whole is = IsPermutation-refl []
picked_moved [] (e ∷ now) indices whole is = subst (IsPermutation []) (sym (is e)) (shuffled [] indices e whole)
picked_moved (e ∷ from) now indices whole is = subst (IsPermutation (e ∷ from)) (sym (is e)) (shuffled (e ∷ from) indices e whole)

module _ {E : Type 0} (from : List E) (indices : List ℕ) (whole : IsPermutation (range_with_len 0 (length from)) indices) where
  pub as_many : length indices ≡ length from
  as_many = length_permutation (range_with_len 0 (length from)) indices whole ∙ length-range_with_len 0 (length from)

  pub each_once : IsPermutation (range_with_len 0 (length indices)) indices
  each_once = subst (λ n. IsPermutation (range_with_len 0 n) indices) (sym as_many) whole

  all_within : All (λ p. p < length from) indices
  all_within =
      let n : ℕ = length from in
      All-permutation (λ p. p < n) (range_with_len 0 n) indices whole
      (All-from_get_or (λ p. p < n) (range_with_len 0 n) 0 (λ i within. let long = length-range_with_len 0 n in let here : i < n = omega (arith, within, long) in let is = get_or-range_with_len 0 n i 0 here in omega (arith, here, is)))

  pub picked_sorted : (R : E → E → Ordering) (now : List E) → IsSorted (λ i j. option_cmp R (slice_get from i) (slice_get from j)) indices → ((d : E) → now ≡ picked 0 d from indices) → IsSorted R now
  picked_sorted R now rising is k d low within =
      let at : ℕ → E = λ i. get_or from (0 + i) d in
      let count : length now ≡ length indices = ap length (is d) ∙ length-map indices at in
      let reads : (j : ℕ) → j < length indices → slice_get from (get_or indices j 0) ≡ Some (get_or now j d)
      = λ j inside.
      slice_get-get_or from (get_or indices j 0) d (all_within j 0 inside)
      ∙ ap Some (ap (λ i. get_or from i d) (start (get_or indices j 0)) ∙ sym (ap (λ es. get_or es j d) (is d) ∙ get_or-map at indices j 0 d inside)) in
      let next = reads (k + 1) (omega (arith, within, count)) in
      let here = reads k (omega (arith, within, count)) in
      sym (λ t. is_lt (option_cmp R (next t) (here t)))
      ∙ rising k 0 low (omega (arith, within, count))
