-- The laws of unions (own): each law of a union follows from the law of the same name for joining two items.
use Rattle.std.specs.Prelude.{◌≡◌, true, false, cond, List, [], ◌∷◌, Option, Some, None, IfSome, refl}
use Rattle.std.proofs.Common.{sym, ap, ◌∙◌}
use Rattle.std.specs.declared.cmp.Ordering.{Ordering}
use Rattle.std.specs.declared.cmp.Ordering.TheVariants.{Less, Equal, Greater}
use Rattle.std.specs.Ordering.{is_eq, match_ordering}
use Rattle.std.specs.List.{AllByRecursion}
use Rattle.std.specs.Cmp.{IsTotalOrder, Equal-is}
use Rattle.merge_laws.specs.Sorted.{IsRising, IsSet, IsMap, item_at, itself, entry_key}
use Rattle.merge_laws.specs.Union.{with_item, union_of, either_or_both, older, merged_entries, set_union, map_union}
use Rattle.merge_laws.specs.code.Items.{same_items, rises_union, item_at-union}

module _ {K E : Type 0} {R : K → K → Ordering} (key : E → K) (o : IsTotalOrder R) (join : E → E → E) (keeps : (x y : E) → key (join x y) ≡ key x) (P : E → Type 0) where
  -- an item that a look-up finds has the key and the property P
  abbrev IsFound : K → Option E → Type 0
  IsFound q a = IfSome a (λ e. P e × (R q (key e) ≡ Equal))

  found : (q : K) (es : List E) → AllByRecursion P es → IsFound q (item_at R key q es)
  found q [] a = tt
  found q (e ∷ es) a = elim (is_eq (R q (key e))) as (λ b. is_eq (R q (key e)) ≡ b → IsFound q (cond b (Some e) (item_at R key q es))) [
    | true ↦ λ t. (a.0, (Equal-is (R q (key e))).0 t)
    | false ↦ λ t. found q es a.1
  ] refl

  -- if joining two items keeps the property P, inserting an item with P keeps P for all items; likewise for unions
  pub all_with : (closed : (x y : E) → P x → P y → P (join x y)) → (x : E) (es : List E) → P x → AllByRecursion P es → AllByRecursion P (with_item R key join x es)
  all_with closed x [] p a = (p, tt)
  all_with closed x (e ∷ es) p a =
      elim (R (key x) (key e)) as (λ r. AllByRecursion P (match_ordering r (x ∷ e ∷ es) (join e x ∷ es) (e ∷ with_item R key join x es))) [
        | Less ↦ (p, a)
        | Equal ↦ (closed e x a.0 p, a.1)
        | Greater ↦ (a.0, all_with closed x es p a.1)
      ]

  pub all_union : (closed : (x y : E) → P x → P y → P (join x y)) → (es fs : List E) → AllByRecursion P es → AllByRecursion P fs → AllByRecursion P (union_of R key join es fs)
  all_union closed es [] a b = a
  all_union closed es (f ∷ fs) a b = all_with closed f _ b.0 (all_union closed es fs a b.1)

  swapped : ((x y : E) → P x → P y → R (key x) (key y) ≡ Equal → join x y ≡ join y x) → (q : K) (a b : Option E) → IsFound q a → IsFound q b → either_or_both join a b ≡ either_or_both join b a
  swapped law q None None f g = refl
  swapped law q None (Some y) f g = refl
  swapped law q (Some x) None f g = refl
  swapped law q (Some x) (Some y) f g = ap Some (law x y f.0 g.0 (sym (o.congr q (key x) (key y) f.1) ∙ g.1))

  regrouped : ((x y z : E) → P x → P y → P z → join (join x y) z ≡ join x (join y z)) → (q : K) (a b c : Option E) → IsFound q a → IsFound q b → IsFound q c → either_or_both join (either_or_both join a b) c ≡ either_or_both join a (either_or_both join b c)
  regrouped law q None b c f g h = refl
  regrouped law q (Some x) None c f g h = refl
  regrouped law q (Some x) (Some y) None f g h = refl
  regrouped law q (Some x) (Some y) (Some z) f g h = ap Some (law x y z f.0 g.0 h.0)

  twice : ((x : E) → P x → join x x ≡ x) → (q : K) (a : Option E) → IsFound q a → either_or_both join a a ≡ a
  twice law q None f = refl
  twice law q (Some x) f = ap Some (law x f.0)

  pub union_commutes : ((x y : E) → P x → P y → R (key x) (key y) ≡ Equal → join x y ≡ join y x) → (es fs : List E) → IsRising R key es → IsRising R key fs → AllByRecursion P es → AllByRecursion P fs → union_of R key join es fs ≡ union_of R key join fs es
  union_commutes law es fs g h a b = same_items key o _ _ (rises_union key o join keeps es fs g) (rises_union key o join keeps fs es h) (λ q.
      item_at-union key o join keeps q es fs g h ∙ swapped law q _ _ (found q es a) (found q fs b) ∙ sym (item_at-union key o join keeps q fs es h g))

  pub union_associates : ((x y z : E) → P x → P y → P z → join (join x y) z ≡ join x (join y z)) → (es fs gs : List E) → IsRising R key es → IsRising R key fs → IsRising R key gs → AllByRecursion P es → AllByRecursion P fs → AllByRecursion P gs → union_of R key join (union_of R key join es fs) gs ≡ union_of R key join es (union_of R key join fs gs)
  union_associates law es fs gs g h k a b c =
      let both = rises_union key o join keeps es fs g in
      let later = rises_union key o join keeps fs gs h in
      same_items key o _ _ (rises_union key o join keeps _ gs both) (rises_union key o join keeps es (union_of R key join fs gs) g) (λ q.
      item_at-union key o join keeps q _ gs both k
      ∙ ap (λ x. either_or_both join x (item_at R key q gs)) (item_at-union key o join keeps q es fs g h)
      ∙ regrouped law q _ _ _ (found q es a) (found q fs b) (found q gs c)
      ∙ sym (ap (either_or_both join (item_at R key q es)) (item_at-union key o join keeps q fs gs h k))
      ∙ sym (item_at-union key o join keeps q es (union_of R key join fs gs) g later))

  pub union_idempotent : ((x : E) → P x → join x x ≡ x) → (es : List E) → IsRising R key es → AllByRecursion P es → union_of R key join es es ≡ es
  union_idempotent law es g a = same_items key o _ _ (rises_union key o join keeps es es g) g (λ q. item_at-union key o join keeps q es es g g ∙ twice law q _ (found q es a))

any : {K : Type 0} (ks : List K) → AllByRecursion (λ _. Unit {0}) ks
any [] = tt
any (k ∷ ks) = (tt, any ks)

-- the laws of sets
module _ {K : Type 0} {R : K → K → Ordering} (o : IsTotalOrder R) where
  pub set_closed : (xs ys : List K) → IsSet R xs → IsSet R ys → IsSet R (set_union R xs ys)
  set_closed xs ys g h = rises_union itself o older (λ _ _. refl) xs ys g

  pub set_idempotent : (xs : List K) → IsSet R xs → set_union R xs xs ≡ xs
  set_idempotent xs g = union_idempotent itself o older (λ _ _. refl) (λ _. Unit {0}) (λ _ _. refl) xs g (any xs)

  pub set_associates : (xs ys zs : List K) → IsSet R xs → IsSet R ys → IsSet R zs → set_union R (set_union R xs ys) zs ≡ set_union R xs (set_union R ys zs)
  set_associates xs ys zs g h k = union_associates itself o older (λ _ _. refl) (λ _. Unit {0}) (λ _ _ _ _ _ _. refl) xs ys zs g h k (any xs) (any ys) (any zs)

  pub set_commutes : ((x y : K) → R x y ≡ Equal → x ≡ y) → (xs ys : List K) → IsSet R xs → IsSet R ys → set_union R xs ys ≡ set_union R ys xs
  set_commutes exact xs ys g h = union_commutes itself o older (λ _ _. refl) (λ _. Unit {0}) (λ x y _ _ e. exact x y e) xs ys g h (any xs) (any ys)

-- the laws of maps, if merging values obeys the same laws
module _ {K V : Type 0} {R : K → K → Ordering} (o : IsTotalOrder R) (P : V → Type 0) (merged : V → V → V) where
  abbrev Has : K × V → Type 0
  Has e = P e.1

  pub map_closed : ((v w : V) → P v → P w → P (merged v w)) → (es fs : List (K × V)) → IsMap R P es → IsMap R P fs → IsMap R P (map_union R merged es fs)
  map_closed closed es fs g h = record {
    rises = rises_union entry_key o (merged_entries merged) (λ _ _. refl) es fs g.rises;
    values = all_union entry_key o (merged_entries merged) (λ _ _. refl) Has (λ e f. closed e.1 f.1) es fs g.values h.values;
  }

  pub map_idempotent : ((v : V) → P v → merged v v ≡ v) → (es : List (K × V)) → IsMap R P es → map_union R merged es es ≡ es
  map_idempotent law es g = union_idempotent entry_key o (merged_entries merged) (λ _ _. refl) Has (λ e p. λ i. (e.0, law e.1 p i)) es g.rises g.values

  pub map_associates : ((u v w : V) → P u → P v → P w → merged (merged u v) w ≡ merged u (merged v w)) → (es fs gs : List (K × V)) → IsMap R P es → IsMap R P fs → IsMap R P gs → map_union R merged (map_union R merged es fs) gs ≡ map_union R merged es (map_union R merged fs gs)
  map_associates law es fs gs g h k = union_associates entry_key o (merged_entries merged) (λ _ _. refl) Has (λ d e f p q r. λ i. (d.0, law d.1 e.1 f.1 p q r i)) es fs gs g.rises h.rises k.rises g.values h.values k.values

  pub map_commutes : ((x y : K) → R x y ≡ Equal → x ≡ y) → ((v w : V) → P v → P w → merged v w ≡ merged w v) → (es fs : List (K × V)) → IsMap R P es → IsMap R P fs → map_union R merged es fs ≡ map_union R merged fs es
  map_commutes exact law es fs g h = union_commutes entry_key o (merged_entries merged) (λ _ _. refl) Has (λ e f p q t. λ i. (exact e.0 f.0 t i, law e.1 f.1 p q i)) es fs g.rises h.rises g.values h.values
