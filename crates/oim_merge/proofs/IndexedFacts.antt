-- Grouping mentions by the indices of their facts groups the mentions by fact.
use Rattle.oim_merge.proofs.Shared.{◌≡◌, ℕ, zero, suc, ◌+◌, ◌<◌, ◌≤◌, List, [], ◌∷◌, ◌++◌, length, get_or, Bool, true, false, not, ◌&&◌, ⊎_elim, refl, sym, ap, ◌∙◌, arith, cond, append_assoc, map, ◌≢◌, filter, nat_lt, Contains, AllByRecursion, All, HoldsAt, IsNonDecreasingBy, IsStableByKey, ties, IsPermutation, IsPartitionPoint, IsPartitionedBy, is_eq, is_lt, nat_cmp, ordering_reverse, Ordering, Less, cases_Bool, false≢true, false_from_ne_true, nat_tests, nat_cmp_total, exact_unsigned, IndexedMention, All-contains, get_or-append-add, get_or_default, length-append, map-append, get_or-map, length-map, All-permutation, each_by_there, each_in_turn, turn_there, IsSet, fact_cmp, Fact, fact_cmp_exact, fact_cmp_total, rank_at, count_at, parted, AreOf, all_indexed, index, indexed, by_fact, is_of, Mention, Less-from_sorted, lent}
use Rattle.std.specs.Cmp.{tied_itself, Equal-is, both_ways}
use Rattle.oim_merge.specs.declared.fact_list.LentFact.{LentFact}

-- ---- indices

abbrev pub has_index : ℕ → IndexedMention → Bool
has_index k m = is_eq (nat_cmp k m.index)

pub index_is : (k p : ℕ) → is_eq (nat_cmp k p) ≡ true → k ≡ p
index_is k p e = exact_unsigned k p ((Equal-is (nat_cmp k p)).0 e)

pub is_index : (k p : ℕ) → k ≡ p → is_eq (nat_cmp k p) ≡ true
is_index k p e = ap (λ q. is_eq (nat_cmp k q)) (sym e) ∙ ap is_eq (tied_itself nat_cmp_total k)

other_index : (k p : ℕ) → k ≢ p → is_eq (nat_cmp k p) ≡ false
other_index k p other = false_from_ne_true (is_eq (nat_cmp k p)) (λ e. other (index_is k p e))

not_here : (k p : ℕ) → is_eq (nat_cmp k p) ≡ false → k ≤ p → k < p
not_here k p e le = ⊎_elim (λ (lt : nat_lt k p ≡ true). grind (arith, nat_tests)) (λ (no : nat_lt k p ≡ false).
    let same : k ≡ p = grind (arith, nat_tests) in
    let is : is_eq (nat_cmp k p) ≡ true = is_index k p same in absurd (cc)) (cases_Bool (nat_lt k p))

-- ---- indices that never decrease

-- the indices are at least k and never decrease
abbrev pub RiseFrom : ℕ → List IndexedMention → Type 0
RiseFrom k [] = Unit {0}
RiseFrom k (m ∷ ms) = (k ≤ m.index) × RiseFrom m.index ms

pub rise_from : (k : ℕ) (ms : List IndexedMention) → ((d : IndexedMention) → 0 < length ms → k ≤ (get_or ms 0 d).index) → IsNonDecreasingBy (λ (m : IndexedMention). m.index) ms → RiseFrom k ms
rise_from k [] first up = tt
rise_from k (m ∷ ms) first up =
    (first m (omega arith), rise_from m.index ms (λ d within. up 0 1 d (omega arith) (omega (arith, within))) (λ i j d le within. up (suc i) (suc j) d (omega (arith, le)) (omega (arith, within))))

rise_lower : (k n : ℕ) (ms : List IndexedMention) → k ≤ n → RiseFrom n ms → RiseFrom k ms
rise_lower k n [] le h = tt
rise_lower k n (m ∷ ms) le h = (omega (arith, le, h.0), h.1)

-- ---- groups by index

-- the mentions whose indices are among the n numbers from k on, grouped by index
abbrev pub groups : ℕ → ℕ → List IndexedMention → List IndexedMention
groups k zero ms = []
groups k (suc n) ms = filter (has_index k) ms ++ groups (suc k) n ms

groups_none : (k n : ℕ) → groups k n [] ≡ []
groups_none k zero = refl
groups_none k (suc n) = groups_none (suc k) n

none_here : (k : ℕ) (ms : List IndexedMention) → RiseFrom (suc k) ms → filter (has_index k) ms ≡ []
none_here k [] h = refl
none_here k (m ∷ ms) h = rw (other_index k m.index (λ e. omega (arith, e, h.0))) (none_here k ms (rise_lower (suc k) m.index ms h.0 h.1))

passed_over : (k n : ℕ) (m : IndexedMention) (ms : List IndexedMention) → m.index < k → groups k n (m ∷ ms) ≡ groups k n ms
passed_over k zero m ms lt = refl
passed_over k (suc n) m ms lt = rw (other_index k m.index (λ e. omega (arith, e, lt))) (ap (λ gs. filter (has_index k) ms ++ gs) (passed_over (suc k) n m ms (omega (arith, lt))))

first_first : (k n : ℕ) (m : IndexedMention) (ms : List IndexedMention) → k ≤ m.index → m.index < k + n → RiseFrom m.index ms → groups k n (m ∷ ms) ≡ m ∷ groups k n ms
first_first k zero m ms le lt up = absurd (omega (arith, le, lt))
first_first k (suc n) m ms le lt up = ⊎_elim
    (λ (here : has_index k m ≡ true). rw here (ap (λ gs. m ∷ (filter (has_index k) ms ++ gs)) (passed_over (suc k) n m ms (omega (arith, index_is k m.index here)))))
    (λ (there : has_index k m ≡ false).
    let later = not_here k m.index there le in
    let none = none_here k ms (rise_lower (suc k) m.index ms (omega (arith, later)) up) in
    rw (there, none) (first_first (suc k) n m ms (omega (arith, later)) (omega (arith, lt)) up))
    (cases_Bool (has_index k m))

pub grouped : (k n : ℕ) (ms : List IndexedMention) → RiseFrom k ms → AllByRecursion (λ (m : IndexedMention). m.index < k + n) ms → groups k n ms ≡ ms
grouped k n [] up below = groups_none k n
grouped k n (m ∷ ms) up below = first_first k n m ms up.0 below.0 up.1 ∙ ap (λ gs. m ∷ gs) (grouped k n ms (rise_lower k m.index ms up.0 up.1) below.1)

-- ---- after a stable sort

tied : (o : Ordering) → (not (is_lt o) && not (is_lt (ordering_reverse o))) ≡ is_eq o
tied Less = refl
tied o = refl

abbrev before : IndexedMention → IndexedMention → Bool
before m n = is_lt (nat_cmp m.index n.index)

ties_index : (k : ℕ) (m : IndexedMention) → ties before (record { index = k; report = 0; identifier = [] }) m ≡ has_index k m
ties_index k m = ap (λ o. not (is_lt (nat_cmp k m.index)) && not (is_lt o)) (nat_cmp_total.antisymm m.index k) ∙ tied (nat_cmp k m.index)

pub same_here : (ms sorted : List IndexedMention) → IsStableByKey (λ (m : IndexedMention). m.index) nat_cmp ms sorted → (k : ℕ) → filter (has_index k) sorted ≡ filter (has_index k) ms
same_here ms sorted stable k =
    (λ i. filter (λ m. sym (ties_index k m) i) sorted)
    ∙ stable (record { index = k; report = 0; identifier = [] })
    ∙ (λ i. filter (λ m. ties_index k m i) ms)

pub same_groups : (k n : ℕ) (ms sorted : List IndexedMention) → ((j : ℕ) → filter (has_index j) sorted ≡ filter (has_index j) ms) → groups k n sorted ≡ groups k n ms
same_groups k zero ms sorted same = refl
same_groups k (suc n) ms sorted same = λ i. same k i ++ same_groups (suc k) n ms sorted same i

-- ---- groups by fact

module _ (facts : List Fact) (rise : IsSet fact_cmp facts) where
  pub index_at : (i : ℕ) (d : Fact) → i < length facts → index facts (get_or facts i d) ≡ i
  index_at i d within = let rank : suc (index facts (get_or facts i d)) ≡ i + 1 = rank_at fact_cmp_total facts i d rise within in omega (arith, rank)

  pub index_within : (f : Fact) → Contains facts f → index facts f < length facts
  index_within f at =
      let is : index facts f ≡ at.0 = ap (index facts) (sym at.2) ∙ index_at at.0 f at.1 in
      omega (arith, is, at.1)

  pub are_within : (ms : List Mention) → AreOf facts ms → AllByRecursion (λ (m : IndexedMention). m.index < 0 + length facts) (all_indexed facts ms)
  are_within [] h = tt
  are_within (m ∷ ms) h = (omega (arith, index_within m.fact h.0), are_within ms h.1)

  module _ (done rest : List Fact) (f : Fact) (all : done ++ (f ∷ rest) ≡ facts) where
    there : get_or facts (length done) f ≡ f
    there = ap (λ fs. get_or fs (length done) f) (sym all) ∙ ap (λ k. get_or (done ++ (f ∷ rest)) k f) (omega arith) ∙ get_or-append-add done (f ∷ rest) 0 f

    within : length done < length facts
    within = omega (arith, ap length all, length-append done (f ∷ rest))

    index_here : index facts f ≡ length done
    index_here = ap (index facts) (sym there) ∙ index_at (length done) f within

    is_here : (g : Fact) → Contains facts g → length done ≡ index facts g → g ≡ f
    is_here g at same =
        let at_index : index facts g ≡ at.0 = ap (index facts) (sym at.2) ∙ index_at at.0 g at.1 in
        sym at.2 ∙ ap (λ k. get_or facts k g) (sym at_index ∙ sym same) ∙ default g ∙ there
      where
        default : (g : Fact) → get_or facts (length done) g ≡ get_or facts (length done) f
        default g = get_or_default facts (length done) g f within

    same_test : (m : Mention) → Contains facts m.fact → has_index (length done) (indexed facts m) ≡ is_of f m
    same_test m at = both_ways (has_index (length done) (indexed facts m)) (is_of f m)
        (λ here. let same = is_here m.fact at (index_is (length done) (index facts m.fact) here) in ap (λ g. is_eq (fact_cmp g f)) same ∙ ap is_eq (tied_itself fact_cmp_total f))
        (λ of_fact. let same = fact_cmp_exact m.fact f ((Equal-is (fact_cmp m.fact f)).0 of_fact) in is_index (length done) (index facts m.fact) (sym index_here ∙ ap (index facts) (sym same)))

    pub one_group : (ms : List Mention) → AreOf facts ms → filter (has_index (length done)) (all_indexed facts ms) ≡ all_indexed facts (filter (is_of f) ms)
    one_group [] h = refl
    one_group (m ∷ ms) h =
        ap (λ b. cond b (indexed facts m ∷ filter (has_index (length done)) (all_indexed facts ms)) (filter (has_index (length done)) (all_indexed facts ms))) (same_test m h.0)
        ∙ ap (λ gs. cond (is_of f m) (indexed facts m ∷ gs) gs) (one_group ms h.1)
        ∙ elim (is_of f m) as (λ b. cond b (indexed facts m ∷ all_indexed facts (filter (is_of f) ms)) (all_indexed facts (filter (is_of f) ms)) ≡ all_indexed facts (cond b (m ∷ filter (is_of f) ms) (filter (is_of f) ms))) [ true ↦ refl | false ↦ refl ]

  groups_are : (done rest : List Fact) → done ++ rest ≡ facts → (k : ℕ) → k ≡ length done → (ms : List Mention) → AreOf facts ms → groups k (length rest) (all_indexed facts ms) ≡ all_indexed facts (by_fact rest ms)
  groups_are done [] all k count ms h = refl
  groups_are done (f ∷ rest) all k count ms h =
      let next = groups_are (done ++ f ∷ []) rest (append_assoc done (f ∷ []) rest ∙ all) (suc k) (omega (arith, count, length-append done (f ∷ []))) ms h in
      let this = ap (λ j. filter (has_index j) (all_indexed facts ms)) count ∙ one_group done rest f all ms h in
      (λ i. this i ++ next i) ∙ sym (map-append (indexed facts) (filter (is_of f) ms) (by_fact rest ms))

  pub indexed_by_fact : (ms : List Mention) → AreOf facts ms → groups 0 (length facts) (all_indexed facts ms) ≡ all_indexed facts (by_fact facts ms)
  indexed_by_fact ms h = groups_are [] facts refl 0 refl ms h

pub sorted_are : (facts : List Fact) → IsSet fact_cmp facts → (ms : List Mention) → AreOf facts ms → (sorted : List IndexedMention) → IsNonDecreasingBy (λ (m : IndexedMention). m.index) sorted → IsStableByKey (λ (m : IndexedMention). m.index) nat_cmp (all_indexed facts ms) sorted → IsPermutation (all_indexed facts ms) sorted → sorted ≡ all_indexed facts (by_fact facts ms)
sorted_are facts rise ms of_facts sorted up stable moved =
    let indexed_ms = all_indexed facts ms in
    let Below : IndexedMention → Type 0 = λ m. m.index < 0 + length facts in
    let all : All Below indexed_ms = each_by_there Below indexed_ms (λ m at. turn_there Below indexed_ms m (are_within facts rise ms of_facts) at) in
    let below : AllByRecursion Below sorted = each_in_turn Below sorted (λ m at. All-contains Below sorted m (All-permutation Below indexed_ms sorted moved all) at) in
    sym (grouped 0 (length facts) sorted (rise_from 0 sorted (λ d within. omega arith) up) below)
    ∙ same_groups 0 (length facts) indexed_ms sorted (same_here indexed_ms sorted stable)
    ∙ indexed_by_fact facts rise ms of_facts

-- ---- the facts that are less than a given fact are the first facts of an ascending list

some_fact : (gs : List LentFact) (k : ℕ) → k < length gs → LentFact
some_fact [] k lt = absurd (omega (arith, lt))
some_fact (g ∷ gs) k lt = g

module _ (f : Fact) where
  abbrev pub comes_before : LentFact → Bool
  comes_before g = is_lt (fact_cmp (lent g) f)

  pub lent_parted : (gs : List LentFact) → IsSet fact_cmp (map lent gs) → IsPartitionedBy comes_before gs
  lent_parted gs rise i j d le within h =
      let at : (k : ℕ) → k < length gs → get_or (map lent gs) k (lent d) ≡ lent (get_or gs k d) = λ k lt. get_or-map lent gs k d (lent d) lt in
      ap (λ g. is_lt (fact_cmp g f)) (sym (at i (omega (arith, le, within))))
      ∙ parted fact_cmp_total (map lent gs) f rise i j (lent d) le (omega (arith, within, length-map gs lent)) (ap (λ g. is_lt (fact_cmp g f)) (at j within) ∙ h)

  at_lent : (gs : List LentFact) (k : ℕ) (d : Fact) (e : LentFact) → k < length gs → get_or (map lent gs) k d ≡ lent (get_or gs k e)
  at_lent gs k d e lt = get_or-map lent gs k e d lt

  pub index_is_point : (gs : List LentFact) (i : ℕ) → i ≤ length gs → IsPartitionPoint (λ g. comes_before g ≡ true) (λ g. comes_before g ≡ false) gs i → index (map lent gs) f ≡ i
  index_is_point gs i le point =
      count_at (λ g. is_lt (fact_cmp g f)) (map lent gs) i (omega (arith, le, length-map gs lent)) (
        (λ k d low high.
            let within : k < length gs = omega (arith, le, high) in
            let e = some_fact gs k within in
            ap (λ g. is_lt (fact_cmp g f)) (at_lent gs k d e within) ∙ point.0 k e low high),
        (λ k d low high.
            let within : k < length gs = omega (arith, high, length-map gs lent) in
            let e = some_fact gs k within in
            ap (λ g. is_lt (fact_cmp g f)) (at_lent gs k d e within) ∙ point.1 k e low within),
      )

  -- the place of a fact in the list is its index
  pub found_index_is_own : (gs : List LentFact) (k : ℕ) → IsSet fact_cmp (map lent gs) → k < length gs → HoldsAt (λ g. lent g ≡ f) gs k → index (map lent gs) f ≡ k
  found_index_is_own gs k rise within here =
      let equal : (d : LentFact) → comes_before (get_or gs k d) ≡ false = λ d. ap (λ g. is_lt (fact_cmp g f)) (here d) ∙ ap is_lt (tied_itself fact_cmp_total f) in
      index_is_point gs k (omega (arith, within)) (
        (λ j d low high.
            let at : (i : ℕ) → i < length gs → get_or (map lent gs) i (lent d) ≡ lent (get_or gs i d) = λ i lt. get_or-map lent gs i d (lent d) lt in
            let less = Less-from_sorted fact_cmp (map lent gs) j k (lent d) rise high (omega (arith, within, length-map gs lent)) in
            ap is_lt ((λ i. fact_cmp (sym (at j (omega (arith, high, within))) i) (sym (at k within ∙ here d) i)) ∙ less)),
        (λ j d low high. not_before gs rise k j d low high (equal d)),
      )
    where
      not_before : (gs : List LentFact) → IsSet fact_cmp (map lent gs) → (k j : ℕ) (d : LentFact) → k ≤ j → j < length gs → comes_before (get_or gs k d) ≡ false → comes_before (get_or gs j d) ≡ false
      not_before gs rise k j d low high kept = elim (comes_before (get_or gs j d)) as (λ b. comes_before (get_or gs j d) ≡ b → b ≡ false) [
        | true ↦ λ before. absurd (false≢true (sym kept ∙ lent_parted gs rise k j d low high before))
        | false ↦ λ before. refl
      ] refl
