-- The result of a search in an ascending list.
use Rattle.merge_laws.proofs.Shared.{◌≡◌, ℕ, zero, suc, ◌+◌, ◌<◌, ◌≤◌, ◌-◌, true, false, not, cond, List, [], ◌∷◌, length, get_or, Some, None, Ok, Err, refl, sym, ap, subst, ◌∙◌, arith, inl, inr, is_some, true≢false, Ordering, Less, Equal, Greater, is_lt, is_eq, ordering_index, IsTotalOrder, Equal-is, alike_right, tied_back, AllWithin, cases_lt, get_or_default, searchable_from_sorted, Less-from_sorted, found_at, index_of, IsRising, item_at, has_key, turned_less, turned_greater}
use Rattle.std.specs.List.Sorted.{IsNonDecreasingBy, IsPartitionPoint}
use Rattle.std.proofs.lemmas.List.Sums.{position_or_len_is}
use Rattle.merge_laws.proofs.Edits.{item_found, tells_ok}

pub less : (r : Ordering) → true ≡ is_lt r → r ≡ Less
less Less t = refl
less r t = absurd (true≢false t)

module _ {K E : Type 0} {R : K → K → Ordering} (key : E → K) (o : IsTotalOrder R) where
  pub rising_at : (es : List E) → IsRising R key es → (i j : ℕ) (d : E) → i < j → j < length es → R (key (get_or es i d)) (key (get_or es j d)) ≡ Less
  rising_at es h i j d below within = Less-from_sorted (λ e f. R (key e) (key f)) es i j d h below within

  has_tied : (es : List E) (k : K) (i : ℕ) (d : E) → i < length es → R (key (get_or es i d)) k ≡ Equal → has_key R key k es ≡ true
  has_tied [] k i d lt p = absurd (omega arith)
  has_tied (e ∷ es) k zero d lt p = ap (λ r. is_some (cond (is_eq r) (Some e) (item_at R key k es))) (tied_back o (key e) k p)
  has_tied (e ∷ es) k (suc i) d lt p = elim (is_eq (R k (key e))) as (λ b. is_some (cond b (Some e) (item_at R key k es)) ≡ true) [ true ↦ refl | false ↦ has_tied es k i d (omega arith) p ]

  has_none : (es : List E) (k : K) → ((j : ℕ) (d : E) → j < length es → is_eq (R k (key (get_or es j d))) ≡ false) → has_key R key k es ≡ false
  has_none [] k apart = refl
  has_none (e ∷ es) k apart = ap (λ b. is_some (cond b (Some e) (item_at R key k es))) (apart 0 e (omega arith)) ∙ has_none es k (λ j d lt. apart (suc j) d (omega arith))

  first_index : (es : List E) (k : K) (i : ℕ) (d : E) → i ≤ length es → ((j : ℕ) → j < i → R (key (get_or es j d)) k ≡ Less) → (i < length es → is_lt (R (key (get_or es i d)) k) ≡ false) → index_of R key k es ≡ i
  first_index es k i d le below at = position_or_len_is (λ e. not (is_lt (R (key e) k))) es i d le (λ j lt. ap (λ r. not (is_lt r)) (below j lt)) (λ lt. ap not (at lt))

  pub found_here : (es : List E) (k : K) (i : ℕ) (d : E) → IsRising R key es → i < length es → R (key (get_or es i d)) k ≡ Equal → Ok i ≡ found_at R key k es
  found_here es k i d h lt p =
      let index = first_index es k i d (omega (arith, lt)) (λ j below. sym (alike_right o _ k _ p) ∙ rising_at es h j i d below lt) (λ _. ap is_lt p) in
      sym (λ n. cond (has_tied es k i d lt p n) (Ok (index n)) (Err (index n)))

  -- if no item has the key, the search returns the index between the items below the key and the items above it
  pub found_gap : (es : List E) (k : K) (i : ℕ) → i ≤ length es → ((j : ℕ) (d : E) → j < i → R (key (get_or es j d)) k ≡ Less) → ((j : ℕ) (d : E) → i ≤ j → j < length es → R (key (get_or es j d)) k ≡ Greater) → Err i ≡ found_at R key k es
  found_gap [] k i le below above = ap Err (omega (arith, le))
  found_gap (e ∷ es) k i le below above =
      let index = first_index (e ∷ es) k i e le (λ j lt. below j e lt) (λ lt. ap is_lt (above i e (omega arith) lt)) in
      let absent = has_none (e ∷ es) k (λ j d lt. elim (cases_lt j i) [
        | inl under ↦ ap is_eq (turned_less key o _ _ (below j d under))
        | inr over ↦ ap is_eq (turned_greater key o _ _ (above j d over lt))
      ]) in
      sym (λ n. cond (absent n) (Ok (index n)) (Err (index n)))

  -- for a key above the last key, the search returns the length
  pub found_behind : (es : List E) (k : K) (last : E) → IsRising R key es → 0 < length es → ((d : E) → last ≡ get_or es (length es - 1) d) → R (key last) k ≡ Less → Err (length es) ≡ found_at R key k es
  found_behind es k last h some is p = found_gap es k (length es) (omega arith) (λ j d lt. elim (cases_lt (j + 1) (length es)) [
    | inl under ↦ o.trans _ _ _ (rising_at es h j (length es - 1) d (omega (arith, under)) (omega (arith, some))) (sym (ap (λ e. R (key e) k) (is d)) ∙ p)
    | inr over ↦ (let same : j ≡ length es - 1 = omega (arith, over, lt) in ap (λ n. R (key (get_or es n d)) k) same ∙ sym (ap (λ e. R (key e) k) (is d)) ∙ p)
  ]) (λ j d ge lt. absurd (omega (arith, ge, lt)))

  -- a search in an ascending list finds a partition point
  pub parted : (es : List E) (k : K) (i : ℕ) → IsRising R key es → (IsNonDecreasingBy (λ e. ordering_index (R (key e) k)) es → IsPartitionPoint (λ e. R (key e) k ≡ Less) (λ e. R (key e) k ≡ Greater) es i) → IsPartitionPoint (λ e. R (key e) k ≡ Less) (λ e. R (key e) k ≡ Greater) es i
  parted es k i h found = found (searchable_from_sorted o key es k (λ j d _ lt.
      ap is_lt (turned_less key o _ _ (rising_at es h j (j + 1) d (omega arith) lt))))

  -- if the item at an index is below a key, so are all items before it; if the item is above the key, so are all items after it
  pub less_before : (es : List E) (k : K) (i : ℕ) (x : E) → IsRising R key es → i < length es → R (key (get_or es i x)) k ≡ Less → (j : ℕ) (d : E) → j < i + 1 → R (key (get_or es j d)) k ≡ Less
  less_before es k i x h within p j d lt =
      let read : R (key (get_or es i d)) k ≡ Less = ap (λ e. R (key e) k) (get_or_default es i d x within) ∙ p in
      elim (cases_lt j i) [
        | inl under ↦ o.trans _ _ _ (rising_at es h j i d under within) read
        | inr over ↦ let same : j ≡ i = omega (arith, over, lt) in ap (λ n. R (key (get_or es n d)) k) same ∙ read
      ]

  pub greater_after : (es : List E) (k : K) (i : ℕ) (x : E) → IsRising R key es → i < length es → R (key (get_or es i x)) k ≡ Greater → (j : ℕ) (d : E) → i ≤ j → j < length es → R (key (get_or es j d)) k ≡ Greater
  greater_after es k i x h here p j d ge within =
      let read : R (key (get_or es i d)) k ≡ Greater = ap (λ e. R (key e) k) (get_or_default es i d x here) ∙ p in
      elim (cases_lt i j) [
        | inl under ↦ turned_less key o _ _ (o.trans _ _ _ (turned_greater key o _ _ read) (rising_at es h i j d under within))
        | inr over ↦ let same : j ≡ i = omega (arith, over, ge) in ap (λ n. R (key (get_or es n d)) k) same ∙ read
      ]

  pub index_bound : (k : K) (es : List E) → index_of R key k es ≤ length es
  index_bound k [] = omega arith
  index_bound k (e ∷ es) = let rest = index_bound k es in elim (is_lt (R (key e) k)) as (λ b. cond (not (not b)) (1 + index_of R key k es) 0 ≤ length (e ∷ es)) [ true ↦ omega (arith, rest) | false ↦ omega arith ]

  pub before_index : (k : K) (es : List E) (j : ℕ) (d : E) → j < index_of R key k es → R (key (get_or es j d)) k ≡ Less
  before_index k [] j d lt = absurd (omega (arith, lt))
  before_index k (e ∷ es) zero d lt = elim (is_lt (R (key e) k)) as (λ b. is_lt (R (key e) k) ≡ b → R (key e) k ≡ Less) [
    | true ↦ λ t. less (R (key e) k) (sym t)
    | false ↦ λ t. let count : index_of R key k (e ∷ es) ≡ 0 = ap (λ b. cond (not (not b)) (1 + index_of R key k es) 0) t in absurd (omega (arith, lt, count))
  ] refl
  before_index k (e ∷ es) (suc j) d lt = before_index k es j d (elim (is_lt (R (key e) k)) as (λ b. is_lt (R (key e) k) ≡ b → j < index_of R key k es) [
    | true ↦ λ t. let count : index_of R key k (e ∷ es) ≡ 1 + index_of R key k es = ap (λ b. cond (not (not b)) (1 + index_of R key k es) 0) t in omega (arith, lt, count)
    | false ↦ λ t. let count : index_of R key k (e ∷ es) ≡ 0 = ap (λ b. cond (not (not b)) (1 + index_of R key k es) 0) t in absurd (omega (arith, lt, count))
  ] refl)

  next_above : (fs : List E) (n m : ℕ) (x d : E) → IsRising R key fs → x ≡ get_or fs n x → m ≡ n + 1 → m < length fs → R (key x) (key (get_or fs m d)) ≡ Less
  next_above fs n m x d h is next within =
      ap (λ f. R (key f) (key (get_or fs m d))) (is ∙ get_or_default fs n x d (omega (arith, next, within)))
      ∙ rising_at fs h n m d (omega (arith, next)) within

  -- all items of es that are below an item of fs are below the next item of fs
  pub passed_more : (es fs : List E) (n m : ℕ) (x d : E) → IsRising R key fs → x ≡ get_or fs n x → m ≡ n + 1 → m < length fs → (p : ℕ) → p ≡ index_of R key (key x) es → AllWithin (λ e. R (key e) (key (get_or fs m d)) ≡ Less) es 0 p
  passed_more es fs n m x d h is next within p at j e _ lt = o.trans _ _ _ (before_index (key x) es j e (subst (λ i. j < i) at lt)) (next_above fs n m x d h is next within)

  tied_item : (k : K) (es : List E) (x : E) → item_at R key k es ≡ Some x → R k (key x) ≡ Equal
  tied_item k [] x is = absurd (true≢false (sym (ap is_some is)))
  tied_item k (e ∷ es) x is = elim (is_eq (R k (key e))) as (λ b. is_eq (R k (key e)) ≡ b → cond b (Some e) (item_at R key k es) ≡ Some x → R k (key x) ≡ Equal) [
    | true ↦ λ t at. subst (λ y. R k (key y) ≡ Equal) (ap (λ a. elim a [ Some y ↦ y | None ↦ e ]) at) ((Equal-is _).0 t)
    | false ↦ λ t at. tied_item k es x at
  ] refl is

  -- so is the item of es that has the key of this item
  pub passed_found : (es fs : List E) (n m : ℕ) (x d : E) → IsRising R key es → IsRising R key fs → x ≡ get_or fs n x → m ≡ n + 1 → m < length fs → (i : ℕ) → Ok i ≡ found_at R key (key x) es → AllWithin (λ e. R (key e) (key (get_or fs m d)) ≡ Less) es 0 (i + 1)
  passed_found es fs n m x d g h is next within i at j e from lt = elim (cases_lt j i) [
    | inl under ↦ passed_more es fs n m x d h is next within i (sym (tells_ok _ _ i at).1) j e from under
    | inr over ↦
        let here : j ≡ i = omega (arith, over, lt) in
        let tied = tied_item (key x) es (get_or es j e) (item_found key o (key x) es i e g at ∙ sym (ap (λ n. Some (get_or es n e)) here)) in
        let above = turned_less key o _ _ (next_above fs n m x d h is next within) in
        turned_greater key o _ _ (sym (alike_right o _ _ _ tied) ∙ above)
  ]
