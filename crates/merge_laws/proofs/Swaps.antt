-- Items of a list that swaps bring into the order of a list of indices.
use Rattle.merge_laws.proofs.Shared.{◌≡◌, ◌≢◌, ℕ, zero, suc, ◌+◌, ◌-◌, ◌<◌, ◌≤◌, ◌==◌, true, false, cond, List, [], ◌∷◌, All, IsPermutation, get_or, length, map, take, set, swap, eqb, refl, sym, ap, subst, ◌∙◌, arith, get_or-set_other, eq-eqb, ne_eqb, inl, inr, lt_trans, IsDistinct, range_with_len, ext_get_or, get_or_append_left, get_or-append-add, get_or_default, get_or-map, get_or-take, length-append, length-map, length-set, length-take-le, All-from_get_or, get_or-range_with_len, length-range_with_len, All-permutation, IsPermutation-refl, IsPermutation-swap, IsPermutation-trans, length_permutation, IsDistinct-IsPermutation, IsDistinct-from_apart, apart_from_distinct, picked}
use Rattle.std.proofs.lemmas.Bool.{cases_eq, cases_lt, cases_order, both_ways}
use Rattle.std.proofs.lemmas.Cmp.{nat_eq_equiv}
use Rattle.std.proofs.lemmas.List.Edits.{length-swap, swap_is, swapped_from_swap}

-- ---- indices at the wrong place

-- 1 if the number at index `at` is another number
abbrev wrong : ℕ → ℕ → ℕ
wrong at index = cond (index == at) 0 1

-- how many numbers differ from their index; the first index is `at`
abbrev pub misplaced : ℕ → List ℕ → ℕ
misplaced at [] = 0
misplaced at (index ∷ indices) = wrong at index + misplaced (suc at) indices

wrong-le : (at index : ℕ) → wrong at index ≤ 1
wrong-le at index = elim (index == at) as (λ b. cond b 0 1 ≤ 1) [ true ↦ omega arith | false ↦ omega arith ]

misplaced-set : (indices : List ℕ) (at i j index : ℕ) → at + i ≡ j → i < length indices → misplaced at (set indices i index) + wrong j (get_or indices i 0) ≡ misplaced at indices + wrong j index
misplaced-set [] at i j index is within = absurd (omega (arith, within))
misplaced-set (p ∷ ps) at zero j index is within =
    let e : at ≡ j = omega (arith, is) in
    subst (λ k. wrong at index + misplaced (suc at) ps + wrong k p ≡ wrong at p + misplaced (suc at) ps + wrong k index) e (omega arith)
misplaced-set (p ∷ ps) at (suc i) j index is within =
    let rest = misplaced-set ps (suc at) i j index (omega (arith, is)) (omega (arith, within)) in
    omega (arith, rest)

-- a swap of `index` to its own index leaves fewer at the wrong place
fewer_wrong : (indices : List ℕ) (i index : ℕ) → i < length indices → index < length indices → index ≡ get_or indices i 0 → index ≢ i → get_or indices index 0 ≢ index → misplaced 0 (swap indices i index) < misplaced 0 indices
fewer_wrong indices i index here there is other moves =
    let next : ℕ = get_or indices index 0 in
    let one : List ℕ = set indices i next in
    let first = misplaced-set indices 0 i i next (omega arith) here in
    let second = misplaced-set one 0 index index (get_or indices i 0) (omega arith) (omega (arith, there, length-set indices i next)) in
    let was : wrong i (get_or indices i 0) ≡ 1 = ap (λ b. cond b 0 1) (ne_eqb (get_or indices i 0) i (λ e. other (is ∙ e))) in
    let kept : get_or one index 0 ≡ next = get_or-set_other indices i index next 0 other in
    let left : wrong index (get_or one index 0) ≡ 1 = ap (λ b. cond b 0 1) (ne_eqb (get_or one index 0) index (λ e. moves (sym kept ∙ e))) in
    let right : wrong index (get_or indices i 0) ≡ 0 = ap (λ b. cond b 0 1) (eq-eqb (get_or indices i 0) index (sym is)) in
    subst (λ ps. misplaced 0 ps < misplaced 0 indices) (swap_is indices i index 0 here there) (omega (arith, first, second, was, left, right, wrong-le i next))

-- ---- a list of indices, each once

range_once : (n : ℕ) → IsDistinct eqb (range_with_len 0 n)
range_once n = IsDistinct-from_apart eqb (range_with_len 0 n) (λ i j d before within.
    let there : j < n = omega (arith, within, length-range_with_len 0 n) in
    let first = get_or-range_with_len 0 n i d (lt_trans before there) in
    let second = get_or-range_with_len 0 n j d there in
    ne_eqb (get_or (range_with_len 0 n) i d) (get_or (range_with_len 0 n) j d) (λ e. omega (arith, e, before, first, second)))

-- ---- items that swaps moved

-- the item that belongs at the index `first + k` is at the index `first + indices[k]`
pub record Moved {E : Type 0} (first : ℕ) (from : List E) (order : List ℕ) (now : List E) (indices : List ℕ) : Type 0 where
  pub len : length now ≡ length from
  pub each_once : IsPermutation order indices
  pub same : (k : ℕ) (d : E) → k < length indices → get_or now (first + get_or indices k 0) d ≡ get_or from (first + get_or order k 0) d
  pub before : (k : ℕ) (d : E) → k < first → get_or now k d ≡ get_or from k d

pub none_moved : {E : Type 0} (first : ℕ) (from : List E) (order : List ℕ) → Moved first from order from order
none_moved first from order = record {
  len = refl;
  each_once = IsPermutation-refl order;
  same = λ k d within. refl;
  before = λ k d below. refl;
}

order_within : (order : List ℕ) → IsPermutation (range_with_len 0 (length order)) order → All (λ p. p < length order) order
order_within order whole =
    let n : ℕ = length order in
    All-permutation (λ p. p < n) (range_with_len 0 n) order whole
    (All-from_get_or (λ p. p < n) (range_with_len 0 n) 0 (λ i within. let count = length-range_with_len 0 n in let here : i < n = omega (arith, within, count) in let is = get_or-range_with_len 0 n i 0 here in omega (arith, here, is)))

module _ {E : Type 0} {first : ℕ} {from : List E} {order : List ℕ} (long : first + length order ≡ length from) (whole : IsPermutation (range_with_len 0 (length order)) order) where
  module _ {now : List E} {indices : List ℕ} (moved : Moved first from order now indices) where
    as_order : length indices ≡ length order
    as_order = length_permutation order indices moved.each_once

    pub as_many : first + length indices ≡ length now
    as_many = omega (arith, as_order, long, moved.len)

    all_within : All (λ p. p < length indices) indices
    all_within = subst (λ n. All (λ p. p < n) indices) (sym as_order) (All-permutation (λ p. p < length order) order indices moved.each_once (order_within order whole))

    once : IsDistinct eqb indices
    once = IsDistinct-IsPermutation eqb nat_eq_equiv.symm order indices moved.each_once (IsDistinct-IsPermutation eqb nat_eq_equiv.symm (range_with_len 0 (length order)) order whole (range_once (length order)))

    -- two indices with one place are one index
    same_index : (i j : ℕ) → i < length indices → j < length indices → get_or indices i 0 ≡ get_or indices j 0 → i ≡ j
    same_index i j here there e = elim (cases_order i j) [
      | inl is ↦ is
      | inr apart ↦ elim apart [
        | inl before ↦ absurd (both_ways _ (apart_from_distinct eqb indices i j 0 once before there) (eq-eqb (get_or indices i 0) (get_or indices j 0) e))
        | inr after ↦ absurd (both_ways _ (apart_from_distinct eqb indices j i 0 once after here) (eq-eqb (get_or indices j 0) (get_or indices i 0) (sym e)))
      ]
    ]

    module _ (i index : ℕ) (here : i < length indices) (read : index ≡ get_or indices i index) where
      at : index ≡ get_or indices i 0
      at = read ∙ get_or_default indices i index 0 here

      pub index_within : index < length indices
      index_within = omega (arith, at, all_within i 0 here)

      pub next_within : (next : ℕ) → next ≡ get_or indices index next → next < length indices
      next_within next reads =
          let goes_at : next ≡ get_or indices index 0 = reads ∙ get_or_default indices index next 0 index_within in
          omega (arith, goes_at, all_within index 0 index_within)

      pub fewer_misplaced : (others : List ℕ) → index ≢ i → others ≡ swap indices i index → misplaced 0 others < misplaced 0 indices
      fewer_misplaced others other swapped =
          subst (λ ps. misplaced 0 ps < misplaced 0 indices) (sym swapped)
          (fewer_wrong indices i index here index_within at other (λ e. other (same_index index i index_within here (e ∙ at))))

      -- the indices before i stay at their places
      pub stay_placed : (others : List ℕ) → index ≢ i → others ≡ swap indices i index → ((k : ℕ) → k < i → get_or indices k 0 ≡ k) → (k : ℕ) → k < i → get_or others k 0 ≡ k
      stay_placed others other swapped indexed k below =
          let moves = swapped_from_swap indices others i index 0 here index_within swapped in
          let not_index : k ≢ index = λ e. omega (arith, below, same_index k i (omega (arith, below, here)) here (indexed k below ∙ e ∙ at)) in
          moves.2 k (λ e. omega (arith, below, e)) not_index ∙ indexed k below

      -- the item that belongs at `index` goes there, and the item that was there goes where that one was
      pub one_moved : (next : ℕ) (items : List E) (others : List ℕ) → index ≢ i → next ≡ get_or indices index next → items ≡ swap now (first + index) (first + next) → others ≡ swap indices i index → Moved first from order items others
      one_moved next items others other reads is swapped =
          let goes_at : next ≡ get_or indices index 0 = reads ∙ get_or_default indices index next 0 index_within in
          let inside : first + index < length now = omega (arith, index_within, as_many) in
          let goes : first + next < length now = omega (arith, next_within next reads, as_many) in
          let moves = swapped_from_swap indices others i index 0 here index_within swapped in
          record {
            len = ap length is ∙ length-swap now (first + index) (first + next) ∙ moved.len;
            each_once = IsPermutation-trans order indices others moved.each_once (IsPermutation-swap indices others i index here index_within swapped);
            same = λ k d within.
                let old_within : k < length indices = omega (arith, within, ap length swapped, length-swap indices i index) in
                let carries = swapped_from_swap now items (first + index) (first + next) d inside goes is in
                let old = moved.same k d old_within in
                elim (cases_eq k i) [
                  | inl e ↦ cc (moves.0, goes_at, carries.1, at, old)
                  | inr not_i ↦ elim (cases_eq k index) [
                    | inl e ↦ cc (moves.1, at, carries.0, goes_at, old)
                    | inr not_index ↦
                        let kept = carries.2 (first + get_or indices k 0) (λ e. not_i (same_index k i old_within here (omega (arith, e, at)))) (λ e. not_index (same_index k index old_within index_within (omega (arith, e, goes_at)))) in
                        cc (moves.2 k not_i not_index, kept, old)
                  ]
                ];
            before = λ k d below.
                let carries = swapped_from_swap now items (first + index) (first + next) d inside goes is in
                carries.2 k (λ e. omega (arith, below, e)) (λ e. omega (arith, below, e)) ∙ moved.before k d below;
          }

    -- if each index is where it belongs, the items are in the order
    pub all_moved : ((k : ℕ) → k < length indices → get_or indices k 0 ≡ k) → (d : E) → now ≡ picked first d from order
    all_moved indexed d =
        let f : ℕ → E = λ k. get_or from (first + k) d in
        let front = length-take-le first from (omega (arith, long)) in
        let count = length-append (take first from) (map f order) in
        let total : length now ≡ length (picked first d from order) = omega (arith, moved.len, long, front, count, length-map order f) in
        ext_get_or d now (picked first d from order) total (λ k within.
        elim (cases_lt k first) [
          | inl below ↦
              moved.before k d below
              ∙ sym (get_or_append_left (take first from) (map f order) d k (omega (arith, below, front)) ∙ get_or-take first from k d below)
          | inr past ↦
              let j : ℕ = k - first in
              let there : j < length indices = omega (arith, within, as_many, past) in
              let is : k ≡ first + j = omega (arith, past) in
              let seam : k ≡ length (take first from) + j = omega (arith, past, front) in
              ap (λ i. get_or now i d) (is ∙ ap (λ i. first + i) (sym (indexed j there)))
              ∙ moved.same j d there
              ∙ sym (get_or-map f order j 0 d (omega (arith, there, as_order)))
              ∙ sym (get_or-append-add (take first from) (map f order) j d)
              ∙ ap (λ i. get_or (picked first d from order) i d) (sym seam)
        ])
