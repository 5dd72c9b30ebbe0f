-- The ranks of a sheet's names: their indices in ascending order (own).
use Rattle.std.specs.Prelude.{◌≡◌, ◌≢◌, ◌≤◌, ℕ, List, [], ◌∷◌, Option, Some, IfSome, String, length, slice_get, option_map, unwrap_or, ⊤}
use Rattle.std.specs.Borrow.{Bor}
use Rattle.std.specs.BTreeMap.{BTreeMap, get_by_text}
use Rattle.std.specs.FinMap as map
use Rattle.std.specs.FinMap.{FinMap}
use Rattle.std.specs.List.{AllWithin}
use Rattle.std.specs.Ordering.{nat_cmp}
use Rattle.oim_names.specs.QName.{QName}
use Rattle.oim_dims.specs.declared.fact.Fact.{Fact}
use Rattle.oim_value.specs.ValueOrder.{name_cmp}

module _ {K : Type 0} where
  -- the index of a name in the ascending list of the map's names
  abbrev pub IsRank : FinMap name_cmp K → QName → ℕ → Type 0
  IsRank m q r = slice_get (map.keys m) r ≡ Some q

  -- the names of one namespace are those from the first index up to the second
  pub record IsSpan (entries : List (QName × K)) (uri : List ℕ) (span : ℕ × ℕ) : Type 0 where
    pub rises : span.0 ≤ span.1
    pub bound : span.1 ≤ length entries
    pub before : AllWithin (λ e. e.0.uri ≢ uri) entries 0 span.0
    pub here : AllWithin (λ e. e.0.uri ≡ uri) entries span.0 span.1
    pub behind : AllWithin (λ e. e.0.uri ≢ uri) entries span.1 (length entries)

  -- the span of each namespace. Other URIs have an empty span
  abbrev pub AreSpans : {Y : Type 0} → List (QName × K) → BTreeMap (String Y) (ℕ × ℕ) → Type 0
  AreSpans entries spans = (uri : List ℕ) → IsSpan entries uri (unwrap_or (get_by_text spans uri) (0, 0))

  -- the name with its kind and its rank, or None if the map has no such name
  pub record IsFound (m : FinMap name_cmp K) (q : QName) (found : Option (Bor QName × K × ℕ)) : Type 0 where
    pub kind : option_map (λ e. e.1) found ≡ map.get m q
    pub name : IfSome found (λ e. e.0.now ≡ q)
    pub rank : IfSome found (λ e. IsRank m e.0.now e.2)

  -- for each fact, the rank of its concept
  abbrev pub AreRanks : FinMap name_cmp K → List Fact → List ℕ → Type 0
  AreRanks m [] [] = ⊤
  AreRanks m [] (r ∷ rs) = ⊥
  AreRanks m (f ∷ fs) [] = ⊥
  AreRanks m (f ∷ fs) (r ∷ rs) = IsRank m f.dimensions.concept r × AreRanks m fs rs

-- ranks are ordered as the concepts of their facts
abbrev pub OrderConcepts : List ℕ → List Fact → Type 0
OrderConcepts ranks facts =
    (i j r s : ℕ) (f g : Fact) → slice_get ranks i ≡ Some r → slice_get ranks j ≡ Some s → slice_get facts i ≡ Some f → slice_get facts j ≡ Some g → nat_cmp r s ≡ name_cmp f.dimensions.concept g.dimensions.concept
