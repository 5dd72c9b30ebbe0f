-- Facts in ascending order, given a list of indices that sorts them.
use Rattle.oim_report.proofs.Shared.{◌≡◌, ℕ, suc, ◌<◌, ◌+◌, false, List, [], ◌∷◌, length, map, drop, drop-cons, get_or, refl, sym, ap, subst, ◌∙◌, arith, All, Option, Some, filter_map, slice_get, IsPermutation, IsSorted, is_gt, is_lt, Ordering, Less, cons_option, range_with_len, IsStrictWeakOrder, options_total, option_cmp, ordering_reverse, All-head, All-tail, All-from_get_or, fill_by_all, length-range_with_len, get_or-range_with_len, All-permutation, IsPermutation-map, length_permutation, ranks_by, slice_get-get_or, Unique, fact_cmp, Fact, IsOrderOf, index_cmp, fact_cmp_total}
use Rattle.oim_report.specs.Duplicates.{level_of}
use Rattle.oim_report.proofs.Pairs.{level_ignores_order}
use Rattle.oim_report.proofs.Runs.{RisesFrom}

abbrev pub facts_at : List Fact → List ℕ → List Fact
facts_at facts indices = filter_map (slice_get facts) indices

pub facts_at-cons : (facts : List Fact) (index : ℕ) (indices : List ℕ) (d : Fact) → index < length facts → facts_at facts (index ∷ indices) ≡ get_or facts index d ∷ facts_at facts indices
facts_at-cons facts index indices d within = ap (λ (o : Option Fact). cons_option o (facts_at facts indices)) (slice_get-get_or facts index d within)

pub indices_within : (facts : List Fact) (indices : List ℕ) → IsOrderOf facts indices → All (λ index. index < length facts) indices
indices_within facts indices order =
    let n : ℕ = length facts in
    All-permutation (λ index. index < n) (range_with_len 0 n) indices order.each_once
    (All-from_get_or (λ index. index < n) (range_with_len 0 n) 0 (λ i within. let long = length-range_with_len 0 n in let here : i < n = omega (arith, within, long) in let is = get_or-range_with_len 0 n i 0 here in omega (arith, here, is)))

mapped : (facts : List Fact) (d : Fact) (indices : List ℕ) → All (λ index. index < length facts) indices → facts_at facts indices ≡ map (λ index. get_or facts index d) indices
mapped facts d [] within = refl
mapped facts d (index ∷ indices) within =
    facts_at-cons facts index indices d (All-head (λ p. p < length facts) index indices within)
    ∙ ap (λ fs. get_or facts index d ∷ fs) (mapped facts d indices (All-tail (λ p. p < length facts) index indices within))

reordered : (facts : List Fact) (d : Fact) (indices : List ℕ) → IsOrderOf facts indices → IsPermutation facts (facts_at facts indices)
reordered facts d indices order =
    let n : ℕ = length facts in
    let all : facts ≡ map (λ index. get_or facts index d) (range_with_len 0 n) = fill_by_all (λ index. get_or facts index d) facts n d refl (λ k within. refl) in
    let moved : IsPermutation (map (λ index. get_or facts index d) (range_with_len 0 n)) (map (λ index. get_or facts index d) indices) = IsPermutation-map (λ index. get_or facts index d) (range_with_len 0 n) indices order.each_once in
    subst (λ fs. IsPermutation facts fs) (sym (mapped facts d indices (indices_within facts indices order)))
    (subst (λ fs. IsPermutation fs (map (λ index. get_or facts index d) indices)) (sym all) moved)

pub level_at_order : (facts : List Fact) (d : Fact) (indices : List ℕ) → IsOrderOf facts indices → level_of facts ≡ level_of (facts_at facts indices)
level_at_order facts d indices order = level_ignores_order facts (facts_at facts indices) (reordered facts d indices order)

pub turned : (r : Ordering) → is_lt r ≡ false → is_gt (ordering_reverse r) ≡ false
turned Less h = h
turned r h = refl

sorted_tail : (facts : List Fact) (index : ℕ) (indices : List ℕ) → IsSorted (index_cmp facts) (index ∷ indices) → IsSorted (index_cmp facts) indices
sorted_tail facts index indices up k d low within =
    let next : suc k + 1 ≡ suc (k + 1) = omega arith in
    subst (λ n. is_lt (index_cmp facts (get_or (index ∷ indices) n d) (get_or (index ∷ indices) (suc k) d)) ≡ false) next (up (suc k) d (omega arith) (omega (arith, within)))

pub rises_from_first : (facts : List Fact) (index : ℕ) (indices : List ℕ) (d : Fact) → All (λ p. p < length facts) (index ∷ indices) → IsSorted (index_cmp facts) (index ∷ indices) → RisesFrom (get_or facts index d) (facts_at facts indices)
rises_from_first facts index [] d within up = tt
rises_from_first facts index (next ∷ indices) d within up =
    let rest = All-tail (λ p. p < length facts) index (next ∷ indices) within in
    let lp : index < length facts = All-head (λ p. p < length facts) index (next ∷ indices) within in
    let ln : next < length facts = All-head (λ p. p < length facts) next indices rest in
    let falls : is_lt (index_cmp facts next index) ≡ false = up 0 0 (omega arith) (omega arith) in
    let x : Fact = get_or facts index d in
    let y : Fact = get_or facts next d in
    let ordered : is_lt (fact_cmp y x) ≡ false = subst (λ (o : Option Fact). is_lt (option_cmp fact_cmp (Some y) o) ≡ false) (slice_get-get_or facts index d lp) (subst (λ (o : Option Fact). is_lt (option_cmp fact_cmp o (slice_get facts index)) ≡ false) (slice_get-get_or facts next d ln) falls) in
    let first : is_gt (fact_cmp x y) ≡ false = ap is_gt (fact_cmp_total.antisymm x y) ∙ turned (fact_cmp y x) ordered in
    let later : RisesFrom y (facts_at facts indices) = rises_from_first facts next indices d rest (sorted_tail facts index (next ∷ indices) up) in
    subst (RisesFrom x) (sym (facts_at-cons facts next indices d ln)) (first, later)

pub index_cmp_ranks : (facts : List Fact) → IsStrictWeakOrder (λ i j. is_lt (index_cmp facts i j))
index_cmp_ranks facts = ranks_by (options_total fact_cmp_total) (slice_get facts)

pub level_of_none : (facts : List Fact) (indices : List ℕ) → IsOrderOf facts indices → length indices ≡ 0 → Unique ≡ level_of facts
unfolding level_of
level_of_none [] indices order none = refl
level_of_none (f ∷ fs) indices order none =
    let long : length indices ≡ length (range_with_len 0 (length (f ∷ fs))) = length_permutation (range_with_len 0 (length (f ∷ fs))) indices order.each_once in
    let count = length-range_with_len 0 (length (f ∷ fs)) in
    absurd (omega (arith, long, count, none))

pub rest_within : (facts : List Fact) (indices rest : List ℕ) (first i : ℕ) → IsOrderOf facts indices → indices ≡ first ∷ rest → i < length rest → get_or rest i 0 < length facts
rest_within facts indices rest first i order split here =
    let within : All (λ p. p < length facts) (first ∷ rest) = subst (All (λ p. p < length facts)) split (indices_within facts indices order) in
    All-tail (λ p. p < length facts) first rest within i 0 here

pub first_within : (facts : List Fact) (indices rest : List ℕ) (first : ℕ) → IsOrderOf facts indices → indices ≡ first ∷ rest → first < length facts
first_within facts indices rest first order split = All-head (λ p. p < length facts) first rest (subst (All (λ p. p < length facts)) split (indices_within facts indices order))

pub facts_at-drop : (facts : List Fact) (rest : List ℕ) (i : ℕ) (f : Fact) → i < length rest → get_or rest i 0 < length facts → f ≡ get_or facts (get_or rest i 0) f → facts_at facts (drop i rest) ≡ f ∷ facts_at facts (drop (i + 1) rest)
facts_at-drop facts rest i f here within is =
    let next : i + 1 ≡ suc i = omega arith in
    ap (facts_at facts) (drop-cons rest i 0 here)
    ∙ facts_at-cons facts (get_or rest i 0) (drop (suc i) rest) f within
    ∙ ap (λ x. x ∷ facts_at facts (drop (suc i) rest)) (sym is)
    ∙ ap (λ k. f ∷ facts_at facts (drop k rest)) (sym next)
