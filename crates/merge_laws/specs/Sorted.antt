-- Lists whose items have strictly ascending keys (own).
use Rattle.std.specs.Prelude.{Bool, List, Option, is_some}
use Rattle.std.specs.List.{AllByRecursion, find}
use Rattle.std.specs.List.Sorted.{IsStrictlySortedBy}
use Rattle.std.specs.Option.{option_map}
use Rattle.std.specs.declared.cmp.Ordering.{Ordering}
use Rattle.std.specs.Ordering.{is_eq}

module _ {K E : Type 0} (R : K → K → Ordering) (key : E → K) where
  -- each key is below all keys after it
  abbrev pub IsRising : List E → Type 0
  IsRising = IsStrictlySortedBy (λ e f. R (key e) (key f))

  -- the first item whose key compares as equal to k, or None
  abbrev pub item_at : K → List E → Option E
  item_at k es = find (λ e. is_eq (R k (key e))) es

  abbrev pub has_key : K → List E → Bool
  has_key k es = is_some (item_at k es)

-- an item of a set is its own key
abbrev pub itself : {K : Type 0} → K → K
itself k = k

abbrev pub entry_key : {K V : Type 0} → K × V → K
entry_key e = e.0

-- a set is a strictly ascending list
abbrev pub IsSet : {K : Type 0} → (K → K → Ordering) → List K → Type 0
IsSet R ks = IsRising R itself ks

-- the keys of a map ascend strictly, and P holds for each value
pub record IsMap {K V : Type 0} (R : K → K → Ordering) (P : V → Type 0) (es : List (K × V)) : Type 0 where
  pub rises : IsRising R entry_key es
  pub values : AllByRecursion (λ e. P e.1) es

abbrev pub value_at : {K V : Type 0} → (K → K → Ordering) → K → List (K × V) → Option V
value_at R k es = option_map (λ e. e.1) (item_at R entry_key k es)
