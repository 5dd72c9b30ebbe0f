-- The changes to a list when another list is merged into it (own): new items and merged values, each with its index.
use Rattle.std.specs.Prelude.{ℕ, zero, suc, ◌≤◌, if◌then◌else◌, List, [], ◌∷◌, ◌++◌, take, drop, Option, Some, None, Result, Ok, Err, not}
use Rattle.std.specs.List.{AllByRecursion, flat_map, position_or_len}
use Rattle.std.specs.declared.cmp.Ordering.{Ordering}
use Rattle.std.specs.Ordering.{is_lt}
use Rattle.merge_laws.specs.Sorted.{item_at, has_key, entry_key}

-- inserts the new items at their indices; the list of new items begins with the last one
abbrev pub inserted : {E : Type 0} → List E → List (ℕ × E) → List E
inserted es [] = es
inserted es (n ∷ ns) = inserted (take n.0 es) ns ++ n.1 ∷ drop n.0 es

-- the index of the first new item, or `end` if there are no new items
abbrev pub first_index : {E : Type 0} → ℕ → List (ℕ × E) → ℕ
first_index end [] = end
first_index end (n ∷ ns) = n.0

-- no new item has a smaller index than the first one
abbrev pub IsFirstLeast : {E : Type 0} → ℕ → List (ℕ × E) → Type 0
IsFirstLeast end ns = AllByRecursion (λ n. first_index end ns ≤ n.0) ns

module _ {K E : Type 0} (R : K → K → Ordering) (key : E → K) where
  -- the index of the first item whose key is not below k, or the length if there is none
  abbrev pub index_of : K → List E → ℕ
  index_of k es = position_or_len (λ e. not (is_lt (R (key e) k))) es

  -- the index of k as `Ok`, or the index at which to insert k as `Err`
  abbrev pub found_at : K → List E → Result ℕ ℕ
  found_at k es = if has_key R key k es then Ok (index_of k es) else Err (index_of k es)

  -- the item with the index at which it is inserted, if the list does not have its key
  abbrev pub new_item : List E → E → List (ℕ × E)
  new_item es f = if has_key R key (key f) es then [] else (index_of (key f) es, f) ∷ []

  abbrev pub new_items : List E → List E → List (ℕ × E)
  new_items es fs = flat_map (new_item es) fs

module _ {K V : Type 0} (R : K → K → Ordering) (merged : V → V → V) where
  -- the merged value, with the index of its key, if both maps have the key
  abbrev pub shared_value : ℕ → V → Option (K × V) → List (ℕ × V)
  shared_value i w None = []
  shared_value i w (Some e) = (i, merged e.1 w) ∷ []

  abbrev pub new_value : List (K × V) → K × V → List (ℕ × V)
  new_value es f = shared_value (index_of R entry_key f.0 es) f.1 (item_at R entry_key f.0 es)

  abbrev pub new_values : List (K × V) → List (K × V) → List (ℕ × V)
  new_values es fs = flat_map (new_value es) fs

-- the entries with v as the value at index i; an index beyond the end changes nothing
abbrev pub with_value : {K V : Type 0} → ℕ → V → List (K × V) → List (K × V)
with_value i v [] = []
with_value zero v (e ∷ es) = (e.0, v) ∷ es
with_value (suc i) v (e ∷ es) = e ∷ with_value i v es

-- replaces several values, one after another
abbrev pub with_values : {K V : Type 0} → List (K × V) → List (ℕ × V) → List (K × V)
with_values es [] = es
with_values es (c ∷ cs) = with_values (with_value c.0 c.1 es) cs
