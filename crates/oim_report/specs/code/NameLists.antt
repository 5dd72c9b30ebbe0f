-- The names that an object lists, in one list per namespace (own).
use Rattle.std.specs.Prelude.{◌≡◌, ℕ, List, [], ◌∷◌, ◌++◌, Bool, String, Vec, bytes_eq, string_bytes}
use Rattle.std.specs.List.{AllByRecursion}
use Rattle.std.specs.List.Sorted.{IsStrictlySortedBy}
use Rattle.std.specs.Map.{keys_of}
use Rattle.std.specs.BTreeMap.{BTreeMap, IsOrdered, get_by_text}
use Rattle.std.specs.FinMap.{find}
use Rattle.std.specs.Option.{option_map_or}
use Rattle.std.specs.String.{string_cmp}
use Rattle.oim_names.specs.QName.{QName}
use Rattle.oim_value.specs.ValueOrder.{name_cmp}

module _ {K : Type 0} where
  abbrev pub has_uri : List ℕ → QName × K → Bool
  has_uri u e = bytes_eq u e.0.uri

  abbrev pub SharesUri : List ℕ → List (QName × K) → Type 0
  SharesUri u es = AllByRecursion (λ e. e.0.uri ≡ u) es

  -- the second list has the names of the first in ascending order, each once, with the kind of its first entry
  pub record IsInOrder (u : List ℕ) (es fs : List (QName × K)) : Type 0 where
    pub shared : SharesUri u fs
    pub rises : IsStrictlySortedBy name_cmp (keys_of fs)
    pub same : (q : QName) → find name_cmp q fs ≡ find name_cmp q es

  module _ {Y : Type 0} where
    abbrev pub list_at : BTreeMap (String Y) (Vec (QName × K) Y) → List ℕ → List (QName × K)
    list_at m u = option_map_or (λ l. l.items) (get_by_text m u) []

    abbrev pub names_in : List (String Y × Vec (QName × K) Y) → List (QName × K)
    names_in [] = []
    names_in (e ∷ es) = e.1.items ++ names_in es

    -- each URI has at most one list, whose names have this URI
    pub record AreLists (m : BTreeMap (String Y) (Vec (QName × K) Y)) : Type 0 where
      pub ordered : IsOrdered string_cmp m
      pub each : AllByRecursion (λ e. SharesUri (string_bytes e.0) e.1.items) m.entries
