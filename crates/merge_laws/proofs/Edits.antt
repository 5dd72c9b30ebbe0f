-- Edits at the index that a search found.
use Rattle.merge_laws.proofs.Shared.{◌≡◌, ℕ, suc, ◌+◌, Bool, true, false, not, cond, List, [], ◌∷◌, ◌++◌, get_or, set, take, drop, Option, Some, None, Result, Ok, Err, refl, sym, ap, ◌∙◌, arith, is_some, Ordering, Less, Equal, Greater, is_lt, is_eq, match_ordering, IsTotalOrder, tied_back, insert, true≢false, found_at, new_item, new_value, shared_value, index_of, IsRising, item_at, has_key, entry_key, with_item, Below, below_less, none_below, turned_less, turned_greater}
use Rattle.std.specs.List.Sorted.{IsStrictlySortedBy}

-- the result of a search shows whether the list has the key, and the index of the key or of its insertion
pub tells_ok : (b : Bool) (p i : ℕ) → ◌≡◌ {A = Result ℕ ℕ} (Ok i) (cond b (Ok p) (Err p)) → (b ≡ true) × (p ≡ i)
tells_ok true p i is = (refl, ap (λ r. elim r [ Ok n ↦ n | Err n ↦ p ]) (sym is))
tells_ok false p i is = absurd (true≢false (ap (λ r. elim r [ Ok n ↦ true | Err n ↦ false ]) is))

pub tells_err : (b : Bool) (p i : ℕ) → ◌≡◌ {A = Result ℕ ℕ} (Err i) (cond b (Ok p) (Err p)) → (b ≡ false) × (p ≡ i)
tells_err true p i is = absurd (true≢false (ap (λ r. elim r [ Ok n ↦ true | Err n ↦ false ]) (sym is)))
tells_err false p i is = (refl, ap (λ r. elim r [ Ok n ↦ p | Err n ↦ n ]) (sym is))

module _ {K E : Type 0} {R : K → K → Ordering} (key : E → K) (o : IsTotalOrder R) where
  pub index_behind : (k : K) (e : E) (es : List E) → R (key e) k ≡ Less → index_of R key k (e ∷ es) ≡ suc (index_of R key k es)
  index_behind k e es p = ap (λ r. cond (not (not (is_lt r))) (1 + index_of R key k es) 0) p ∙ omega arith

  pub index_here : (k : K) (e : E) (es : List E) → is_lt (R (key e) k) ≡ false → index_of R key k (e ∷ es) ≡ 0
  index_here k e es p = ap (λ b. cond (not (not b)) (1 + index_of R key k es) 0) p

  pub not_here : (k : K) (e : E) (es : List E) → R k (key e) ≡ Greater → has_key R key k (e ∷ es) ≡ has_key R key k es
  not_here k e es p = ap (λ r. is_some (cond (is_eq r) (Some e) (item_at R key k es))) p

  not_below : {A : Type 0} (k : K) (es : List E) → Below key o k es → has_key R key k es ≡ true → A
  not_below k es h has = absurd (true≢false (sym has ∙ ap is_some (none_below key o k es h)))

  pub below_rest : (k : K) (e : E) (es : List E) → IsRising R key (e ∷ es) → R k (key e) ≡ Less → Below key o k (e ∷ es)
  unfolding IsStrictlySortedBy
  below_rest k e es h p = (p, below_less key o k (key e) es p h.0)

  pub rest_rises : (e : E) (es : List E) → IsRising R key (e ∷ es) → IsRising R key es
  unfolding IsStrictlySortedBy
  rest_rises e es h = h.1

  pub item_there : (k : K) (es : List E) (d : E) → IsRising R key es → has_key R key k es ≡ true → item_at R key k es ≡ Some (get_or es (index_of R key k es) d)
  item_there k [] d h has = absurd (true≢false (sym has))
  item_there k (e ∷ es) d h has =
      elim (R k (key e)) as (λ r. R k (key e) ≡ r → item_at R key k (e ∷ es) ≡ Some (get_or (e ∷ es) (index_of R key k (e ∷ es)) d)) [
        | Less ↦ λ p. not_below k (e ∷ es) (below_rest k e es h p) has
        | Equal ↦ λ p. ap (λ r. cond (is_eq r) (Some e) (item_at R key k es)) p ∙ sym (ap (λ i. Some (get_or (e ∷ es) i d)) (index_here k e es (ap is_lt (tied_back o k (key e) p))))
        | Greater ↦ λ p.
            ap (λ r. cond (is_eq r) (Some e) (item_at R key k es)) p
            ∙ item_there k es d (rest_rises e es h) (sym (not_here k e es p) ∙ has)
            ∙ sym (ap (λ i. Some (get_or (e ∷ es) i d)) (index_behind k e es (turned_greater key o k (key e) p)))
      ] refl

  module _ (join : E → E → E) where
    pub indexed : (x : E) (es : List E) → has_key R key (key x) es ≡ false → take (index_of R key (key x) es) es ++ x ∷ drop (index_of R key (key x) es) es ≡ with_item R key join x es
    indexed x [] has = refl
    indexed x (e ∷ es) has =
        elim (R (key x) (key e)) as (λ r. R (key x) (key e) ≡ r → take (index_of R key (key x) (e ∷ es)) (e ∷ es) ++ x ∷ drop (index_of R key (key x) (e ∷ es)) (e ∷ es) ≡ match_ordering r (x ∷ e ∷ es) (join e x ∷ es) (e ∷ with_item R key join x es)) [
          | Less ↦ λ p. ap (λ i. take i (e ∷ es) ++ x ∷ drop i (e ∷ es)) (index_here (key x) e es (ap is_lt (turned_less key o (key x) (key e) p)))
          | Equal ↦ λ p. absurd (true≢false (sym (ap (λ r. is_some (cond (is_eq r) (Some e) (item_at R key (key x) es))) p) ∙ has))
          | Greater ↦ λ p.
              ap (λ i. take i (e ∷ es) ++ x ∷ drop i (e ∷ es)) (index_behind (key x) e es (turned_greater key o (key x) (key e) p))
              ∙ ap (λ s. e ∷ s) (indexed x es (sym (not_here (key x) e es p) ∙ has))
        ] refl

    pub replaced : (x : E) (es : List E) (d : E) → IsRising R key es → has_key R key (key x) es ≡ true → set es (index_of R key (key x) es) (join (get_or es (index_of R key (key x) es) d) x) ≡ with_item R key join x es
    replaced x [] d h has = absurd (true≢false (sym has))
    replaced x (e ∷ es) d h has =
        elim (R (key x) (key e)) as (λ r. R (key x) (key e) ≡ r → set (e ∷ es) (index_of R key (key x) (e ∷ es)) (join (get_or (e ∷ es) (index_of R key (key x) (e ∷ es)) d) x) ≡ match_ordering r (x ∷ e ∷ es) (join e x ∷ es) (e ∷ with_item R key join x es)) [
          | Less ↦ λ p. not_below (key x) (e ∷ es) (below_rest (key x) e es h p) has
          | Equal ↦ λ p. ap (λ i. set (e ∷ es) i (join (get_or (e ∷ es) i d) x)) (index_here (key x) e es (ap is_lt (tied_back o (key x) (key e) p)))
          | Greater ↦ λ p.
              ap (λ i. set (e ∷ es) i (join (get_or (e ∷ es) i d) x)) (index_behind (key x) e es (turned_greater key o (key x) (key e) p))
              ∙ ap (λ s. e ∷ s) (replaced x es d (rest_rises e es h) (sym (not_here (key x) e es p) ∙ has))
        ] refl

    -- if joining keeps the older item, adding an item whose key is in the list changes nothing
    pub unchanged : ((e y : E) → join e y ≡ e) → (x : E) (es : List E) → IsRising R key es → has_key R key (key x) es ≡ true → with_item R key join x es ≡ es
    unchanged older x [] h has = absurd (true≢false (sym has))
    unchanged older x (e ∷ es) h has =
        elim (R (key x) (key e)) as (λ r. R (key x) (key e) ≡ r → match_ordering r (x ∷ e ∷ es) (join e x ∷ es) (e ∷ with_item R key join x es) ≡ e ∷ es) [
          | Less ↦ λ p. not_below (key x) (e ∷ es) (below_rest (key x) e es h p) has
          | Equal ↦ λ p. ap (λ f. f ∷ es) (older e x)
          | Greater ↦ λ p. ap (λ s. e ∷ s) (unchanged older x es (rest_rises e es h) (sym (not_here (key x) e es p) ∙ has))
        ] refl

    pub put_in : (es new : List E) (x y : E) (i : ℕ) → Err i ≡ found_at R key (key x) es → y ≡ x → new ≡ insert es i y → new ≡ with_item R key join x es
    put_in es new x y i at same is =
        let told = tells_err (has_key R key (key x) es) (index_of R key (key x) es) i at in
        is ∙ (λ n. insert es (sym told.1 n) (same n)) ∙ indexed x es told.0

  pub item_found : (k : K) (es : List E) (i : ℕ) (d : E) → IsRising R key es → Ok i ≡ found_at R key k es → item_at R key k es ≡ Some (get_or es i d)
  item_found k es i d h at =
      let told = tells_ok (has_key R key k es) (index_of R key k es) i at in
      item_there k es d h told.0 ∙ ap (λ n. Some (get_or es n d)) told.1

  -- an item is new exactly if a search does not find its key
  pub not_new : (f : E) (es : List E) (i : ℕ) → Ok i ≡ found_at R key (key f) es → new_item R key es f ≡ []
  not_new f es i at = ap (λ b. cond b [] ((index_of R key (key f) es, f) ∷ [])) (tells_ok _ _ i at).0

  pub is_new : (f : E) (es : List E) (i : ℕ) → Err i ≡ found_at R key (key f) es → new_item R key es f ≡ (i, f) ∷ []
  is_new f es i at = let told = tells_err (has_key R key (key f) es) (index_of R key (key f) es) i at in λ n. cond (told.0 n) [] ((told.1 n, f) ∷ [])

none_there : {A : Type 0} (a : Option A) → is_some a ≡ false → a ≡ None
none_there None e = refl
none_there (Some x) e = absurd (true≢false e)

module _ {K V : Type 0} {R : K → K → Ordering} (o : IsTotalOrder R) (merged : V → V → V) where
  pub value_shared : (f : K × V) (es : List (K × V)) (i : ℕ) (d : K × V) → IsRising R entry_key es → Ok i ≡ found_at R entry_key f.0 es → new_value R merged es f ≡ (i, merged (get_or es i d).1 f.1) ∷ []
  value_shared f es i d h at =
      ap (λ a. shared_value R merged (index_of R entry_key f.0 es) f.1 a) (item_found entry_key o f.0 es i d h at)
      ∙ ap (λ n. (n, merged (get_or es i d).1 f.1) ∷ []) (tells_ok (has_key R entry_key f.0 es) (index_of R entry_key f.0 es) i at).1

  pub no_value : (f : K × V) (es : List (K × V)) (i : ℕ) → Err i ≡ found_at R entry_key f.0 es → new_value R merged es f ≡ []
  no_value f es i at = ap (λ a. shared_value R merged (index_of R entry_key f.0 es) f.1 a) (none_there _ (tells_err (has_key R entry_key f.0 es) (index_of R entry_key f.0 es) i at).0)
