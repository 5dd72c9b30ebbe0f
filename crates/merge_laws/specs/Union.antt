-- The union of two sets, or of two maps (own).
use Rattle.std.specs.Prelude.{◌≡◌, ◌↔◌, ◌⊎◌, IsTrue, List, [], ◌∷◌, Contains, Option, Some, None}
use Rattle.std.specs.declared.cmp.Ordering.{Ordering}
use Rattle.std.specs.Ordering.{match_ordering}
use Rattle.merge_laws.specs.Sorted.{IsRising, IsSet, has_key, itself, entry_key, value_at}

module _ {K E : Type 0} (R : K → K → Ordering) (key : E → K) (join : E → E → E) where
  -- x is inserted in order; if an item has the same key, x is joined with that item instead
  abbrev pub with_item : E → List E → List E
  with_item x [] = x ∷ []
  with_item x (e ∷ es) = match_ordering (R (key x) (key e)) (x ∷ e ∷ es) (join e x ∷ es) (e ∷ with_item x es)

  -- the items of the second list are inserted into the first list, from the last item to the first
  abbrev pub union_of : List E → List E → List E
  union_of es [] = es
  union_of es (f ∷ fs) = with_item f (union_of es fs)

-- the joined value if both are present, otherwise the one that is present, if any
abbrev pub either_or_both : {A : Type 0} → (A → A → A) → Option A → Option A → Option A
either_or_both join None b = b
either_or_both join (Some x) None = Some x
either_or_both join (Some x) (Some y) = Some (join x y)

-- a set keeps the first of two items with the same key
abbrev pub older : {K : Type 0} → K → K → K
older x y = x

-- a map merges the values of two entries with the same key
abbrev pub merged_entries : {K V : Type 0} → (V → V → V) → K × V → K × V → K × V
merged_entries merged e f = (e.0, merged e.1 f.1)

-- an item that the set has already is not inserted again
abbrev pub set_with : {K : Type 0} → (K → K → Ordering) → K → List K → List K
set_with R = with_item R itself older

abbrev pub set_union : {K : Type 0} → (K → K → Ordering) → List K → List K → List K
set_union R = union_of R itself older

-- if the map has the key already, the two values are merged
abbrev pub map_with : {K V : Type 0} → (K → K → Ordering) → (V → V → V) → K → V → List (K × V) → List (K × V)
map_with R merged k v = with_item R entry_key (merged_entries merged) (k, v)

abbrev pub map_union : {K V : Type 0} → (K → K → Ordering) → (V → V → V) → List (K × V) → List (K × V) → List (K × V)
map_union R merged = union_of R entry_key (merged_entries merged)

module _ {K : Type 0} (R : K → K → Ordering) where
  -- `set` is a set with exactly the items of the lists xs and ys
  pub record IsSetOfBoth (xs ys set : List K) : Type 0 where
    pub rises : IsSet R set
    pub members : (x : K) → Contains set x ↔ (Contains xs x ⊎ Contains ys x)

  -- a look-up finds an item exactly if the list contains it
  abbrev pub SetTellsItem : Type 0
  SetTellsItem = (xs : List K) (x : K) → IsTrue (has_key R itself x xs) ↔ Contains xs x

  abbrev pub SetUnionHasBoth : Type 0
  SetUnionHasBoth = (xs ys : List K) → IsSet R xs → IsSet R ys → IsSetOfBoth xs ys (set_union R xs ys)

  abbrev pub SetWithHasItem : Type 0
  SetWithHasItem = (xs : List K) (x : K) → IsSet R xs → IsSetOfBoth xs (x ∷ []) (set_with R x xs)

module _ {K V : Type 0} (R : K → K → Ordering) (merged : V → V → V) where
  -- the keys of `map` ascend, and are exactly the keys of es and fs; the two values at a shared key are merged; other values do
  -- not change
  pub record IsMapOfBoth (es fs map : List (K × V)) : Type 0 where
    pub rises : IsRising R entry_key map
    pub values : (k : K) → value_at R k map ≡ either_or_both merged (value_at R k es) (value_at R k fs)

  -- a look-up of k finds v exactly if the map has an entry with the key k and the value v
  abbrev pub MapTellsEntry : Type 0
  MapTellsEntry = (es : List (K × V)) (k : K) (v : V) → IsRising R entry_key es → (value_at R k es ≡ Some v) ↔ Contains es (k, v)

  abbrev pub MapUnionHasBoth : Type 0
  MapUnionHasBoth = (es fs : List (K × V)) → IsRising R entry_key es → IsRising R entry_key fs → IsMapOfBoth es fs (map_union R merged es fs)

  abbrev pub MapWithMerges : Type 0
  MapWithMerges = (es : List (K × V)) (k : K) (v : V) → IsRising R entry_key es → IsMapOfBoth es ((k, v) ∷ []) (map_with R merged k v es)
