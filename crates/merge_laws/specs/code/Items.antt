-- The items at the keys of ascending lists and of their unions (own). Ascending lists with the same item at each key are equal.
use Rattle.std.specs.Prelude.{◌≡◌, ◌≢◌, true, false, cond, List, [], ◌∷◌, Option, Some, None, is_some, unwrap_or, refl}
use Rattle.std.proofs.Common.{sym, ap, ◌∙◌}
use Rattle.std.specs.declared.cmp.Ordering.{Ordering}
use Rattle.std.specs.declared.cmp.Ordering.TheVariants.{Less, Equal, Greater}
use Rattle.std.specs.Ordering.{is_eq, ordering_reverse, match_ordering}
use Rattle.std.specs.List.{AllByRecursion}
use Rattle.std.specs.List.Sorted.{IsStrictlySortedBy}
use Rattle.std.specs.Cmp.{IsTotalOrder, Equal-is, tied_itself, alike_right}
use mathlib.Core.Bool.{true≢false}
use Rattle.merge_laws.specs.Sorted.{IsRising, item_at}
use Rattle.merge_laws.specs.Union.{with_item, union_of, either_or_both}

not_None : {A : Type 0} (x : A) → Some x ≢ None
not_None x e = true≢false (ap is_some e)

same_Some : {A : Type 0} (x y : A) → Some x ≡ Some y → x ≡ y
same_Some x y e = ap (λ o. unwrap_or o x) e

pub alone : {A : Type 0} (join : A → A → A) (a : Option A) → either_or_both join a None ≡ a
alone join None = refl
alone join (Some x) = refl

module _ {K E : Type 0} {R : K → K → Ordering} (key : E → K) (o : IsTotalOrder R) where
  -- a key is below the keys of all items
  abbrev pub Below : K → List E → Type 0
  Below k = AllByRecursion (λ e. R k (key e) ≡ Less)

  pub below_less : (x y : K) (es : List E) → R x y ≡ Less → Below y es → Below x es
  below_less x y [] p h = tt
  below_less x y (e ∷ es) p h = (o.trans x y (key e) p h.0, below_less x y es p h.1)

  pub below_tied : (x y : K) (es : List E) → R x y ≡ Equal → Below y es → Below x es
  below_tied x y [] p h = tt
  below_tied x y (e ∷ es) p h = (o.congr x y (key e) p ∙ h.0, below_tied x y es p h.1)

  pub turned_less : (x y : K) → R x y ≡ Less → R y x ≡ Greater
  turned_less x y p = o.antisymm y x ∙ ap ordering_reverse p

  pub turned_greater : (x y : K) → R x y ≡ Greater → R y x ≡ Less
  turned_greater x y p = o.antisymm y x ∙ ap ordering_reverse p

  pub none_below : (q : K) (es : List E) → Below q es → item_at R key q es ≡ None
  none_below q [] h = refl
  none_below q (e ∷ es) h = ap (λ r. cond (is_eq r) (Some e) (item_at R key q es)) h.0 ∙ none_below q es h.1

  pub none_tied : (q x : K) (es : List E) → R q x ≡ Equal → Below x es → item_at R key q es ≡ None
  none_tied q x es p h = none_below q es (below_tied q x es p h)

  at_first : (e : E) (es : List E) → item_at R key (key e) (e ∷ es) ≡ Some e
  at_first e es = ap (λ r. cond (is_eq r) (Some e) (item_at R key (key e) es)) (tied_itself o (key e))

  pub same_found : (p q : K) (es : List E) → R p q ≡ Equal → item_at R key p es ≡ item_at R key q es
  same_found p q [] t = refl
  same_found p q (e ∷ es) t = λ i. cond (is_eq (o.congr p q (key e) t i)) (Some e) (same_found p q es t i)

  -- if two ascending lists begin with different keys, they have different items at the lower of the two keys
  missed : (e f : E) (es fs : List E) → R (key e) (key f) ≡ Less → Below (key f) fs → item_at R key (key e) (e ∷ es) ≢ item_at R key (key e) (f ∷ fs)
  missed e f es fs p h is = not_None e (sym (at_first e es) ∙ is ∙ none_below (key e) (f ∷ fs) (p, below_less (key e) (key f) fs p h))

  tails : (q : K) (e f : E) (es fs : List E) → Below (key e) es → Below (key f) fs → item_at R key q (e ∷ es) ≡ item_at R key q (f ∷ fs) → R q (key e) ≡ R q (key f) → item_at R key q es ≡ item_at R key q fs
  tails q e f es fs g h is same =
      elim (is_eq (R q (key e))) as (λ b. is_eq (R q (key e)) ≡ b → cond b (Some e) (item_at R key q es) ≡ cond (is_eq (R q (key f))) (Some f) (item_at R key q fs) → item_at R key q es ≡ item_at R key q fs) [
        | true ↦ λ t _. none_tied q (key e) es ((Equal-is (R q (key e))).0 t) g ∙ sym (none_tied q (key f) fs (sym same ∙ (Equal-is (R q (key e))).0 t) h)
        | false ↦ λ t i. i ∙ ap (λ b. cond b (Some f) (item_at R key q fs)) (ap is_eq (sym same) ∙ t)
      ] refl is

  pub same_items : (es fs : List E) → IsRising R key es → IsRising R key fs → ((q : K) → item_at R key q es ≡ item_at R key q fs) → es ≡ fs
  unfolding IsStrictlySortedBy
  same_items [] [] g h is = refl
  same_items [] (f ∷ fs) g h is = absurd (not_None f (sym (at_first f fs) ∙ sym (is (key f))))
  same_items (e ∷ es) [] g h is = absurd (not_None e (sym (at_first e es) ∙ is (key e)))
  same_items (e ∷ es) (f ∷ fs) g h is =
      elim (R (key e) (key f)) as (λ r. R (key e) (key f) ≡ r → e ∷ es ≡ f ∷ fs) [
        | Less ↦ λ p. absurd (missed e f es fs p h.0 (is (key e)))
        | Greater ↦ λ p. absurd (missed f e fs es (turned_greater _ _ p) g.0 (sym (is (key f))))
        | Equal ↦ λ p.
            let one : e ≡ f = same_Some _ _ (sym (at_first e es) ∙ is (key e) ∙ ap (λ r. cond (is_eq r) (Some f) (item_at R key (key e) fs)) p) in
            let rest : es ≡ fs = same_items es fs g.1 h.1 (λ q. tails q e f es fs g.0 h.0 (is q) (ap (λ x. R q (key x)) one)) in
            λ i. one i ∷ rest i
      ] refl

  module _ (join : E → E → E) (keeps : (x y : E) → key (join x y) ≡ key x) where
    below_with : (k : K) (x : E) (es : List E) → R k (key x) ≡ Less → Below k es → Below k (with_item R key join x es)
    below_with k x [] p h = (p, tt)
    below_with k x (e ∷ es) p h =
        elim (R (key x) (key e)) as (λ r. Below k (match_ordering r (x ∷ e ∷ es) (join e x ∷ es) (e ∷ with_item R key join x es))) [
          | Less ↦ (p, h)
          | Equal ↦ (ap (R k) (keeps e x) ∙ h.0, h.1)
          | Greater ↦ (h.0, below_with k x es p h.1)
        ]

    pub rises_with : (x : E) (es : List E) → IsRising R key es → IsRising R key (with_item R key join x es)
    unfolding IsStrictlySortedBy
    rises_with x [] h = (tt, tt)
    rises_with x (e ∷ es) h =
        elim (R (key x) (key e)) as (λ r. R (key x) (key e) ≡ r → IsRising R key (match_ordering r (x ∷ e ∷ es) (join e x ∷ es) (e ∷ with_item R key join x es))) [
          | Less ↦ λ p. ((p, below_less (key x) (key e) es p h.0), h)
          | Equal ↦ λ p. (below_tied (key (join e x)) (key e) es (ap (λ k. R k (key e)) (keeps e x) ∙ tied_itself o (key e)) h.0, h.1)
          | Greater ↦ λ p. (below_with (key e) x es (turned_greater _ _ p) h.0, rises_with x es h.1)
        ] refl

    pub rises_union : (es fs : List E) → IsRising R key es → IsRising R key (union_of R key join es fs)
    rises_union es [] g = g
    rises_union es (f ∷ fs) g = rises_with f _ (rises_union es fs g)

    tied_less_apart : (q x y : K) → R x y ≡ Less → is_eq (R q x) ≡ true → is_eq (R q y) ≡ false
    tied_less_apart q x y p t = ap is_eq (o.congr q x y ((Equal-is (R q x)).0 t) ∙ p)

    -- the item at each key after an item is inserted
    pub item_at-with : (q : K) (x : E) (es : List E) → IsRising R key es → item_at R key q (with_item R key join x es) ≡ cond (is_eq (R q (key x))) (either_or_both join (item_at R key q es) (Some x)) (item_at R key q es)
    unfolding IsStrictlySortedBy
    item_at-with q x [] h = refl
    item_at-with q x (e ∷ es) h =
        elim (R (key x) (key e)) as (λ r. R (key x) (key e) ≡ r → item_at R key q (match_ordering r (x ∷ e ∷ es) (join e x ∷ es) (e ∷ with_item R key join x es)) ≡ cond (is_eq (R q (key x))) (either_or_both join (item_at R key q (e ∷ es)) (Some x)) (item_at R key q (e ∷ es))) [
          | Less ↦ λ p. elim (is_eq (R q (key x))) as (λ b. is_eq (R q (key x)) ≡ b → cond b (Some x) (item_at R key q (e ∷ es)) ≡ cond b (either_or_both join (item_at R key q (e ∷ es)) (Some x)) (item_at R key q (e ∷ es))) [
            | true ↦ λ t. sym (ap (λ a. either_or_both join a (Some x)) (none_tied q (key x) (e ∷ es) ((Equal-is (R q (key x))).0 t) (p, below_less (key x) (key e) es p h.0)))
            | false ↦ λ t. refl
          ] refl
          | Equal ↦ λ p.
              let at : R q (key (join e x)) ≡ R q (key x) = ap (R q) (keeps e x) ∙ sym (alike_right o (key x) (key e) q p) in
              elim (is_eq (R q (key x))) as (λ b. is_eq (R q (key x)) ≡ b → item_at R key q (join e x ∷ es) ≡ cond b (either_or_both join (item_at R key q (e ∷ es)) (Some x)) (item_at R key q (e ∷ es))) [
                | true ↦ λ t. ap (λ b. cond b (Some (join e x)) (item_at R key q es)) (ap is_eq at ∙ t) ∙ sym (ap (λ b. either_or_both join (cond b (Some e) (item_at R key q es)) (Some x)) (ap is_eq (sym (alike_right o (key x) (key e) q p)) ∙ t))
                | false ↦ λ t. ap (λ b. cond b (Some (join e x)) (item_at R key q es)) (ap is_eq at ∙ t) ∙ sym (ap (λ b. cond b (Some e) (item_at R key q es)) (ap is_eq (sym (alike_right o (key x) (key e) q p)) ∙ t))
              ] refl
          | Greater ↦ λ p.
              elim (is_eq (R q (key e))) as (λ b. is_eq (R q (key e)) ≡ b → cond b (Some e) (item_at R key q (with_item R key join x es)) ≡ cond (is_eq (R q (key x))) (either_or_both join (cond b (Some e) (item_at R key q es)) (Some x)) (cond b (Some e) (item_at R key q es))) [
                | true ↦ λ t. sym (ap (λ b. cond b (either_or_both join (Some e) (Some x)) (Some e)) (tied_less_apart q (key e) (key x) (turned_greater _ _ p) t))
                | false ↦ λ t. item_at-with q x es h.1
              ] refl
        ] refl

    -- the item at each key of the union
    pub item_at-union : (q : K) (es fs : List E) → IsRising R key es → IsRising R key fs → item_at R key q (union_of R key join es fs) ≡ either_or_both join (item_at R key q es) (item_at R key q fs)
    unfolding IsStrictlySortedBy
    item_at-union q es [] g h = sym (alone join (item_at R key q es))
    item_at-union q es (f ∷ fs) g h =
        item_at-with q f _ (rises_union es fs g)
        ∙ elim (is_eq (R q (key f))) as (λ b. is_eq (R q (key f)) ≡ b → cond b (either_or_both join (item_at R key q (union_of R key join es fs)) (Some f)) (item_at R key q (union_of R key join es fs)) ≡ either_or_both join (item_at R key q es) (cond b (Some f) (item_at R key q fs))) [
          | true ↦ λ t. ap (λ a. either_or_both join a (Some f)) (item_at-union q es fs g h.1 ∙ ap (either_or_both join (item_at R key q es)) (none_tied q (key f) fs ((Equal-is (R q (key f))).0 t) h.0) ∙ alone join (item_at R key q es))
          | false ↦ λ t. item_at-union q es fs g h.1
        ] refl
