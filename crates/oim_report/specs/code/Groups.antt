-- The names of a sheet, in one group per namespace (own).
use Rattle.std.specs.Prelude.{◌≡◌, ℕ, List, [], ◌∷◌, ◌++◌, String}
use Rattle.std.specs.List.{AllByRecursion}
use Rattle.std.specs.BTreeMap.{BTreeMap, IsOrdered, values}
use Rattle.std.specs.FinMap as map
use Rattle.std.specs.FinMap.{FinMap}
use Rattle.std.specs.String.{string_bytes, string_cmp}
use Rattle.oim_names.specs.QName.{QName}
use Rattle.oim_value.specs.ValueOrder.{name_cmp}

module _ {K Y : Type 0} where
  -- each name has this URI, and its key in the map is its local part
  abbrev pub IsGroup : List ℕ → BTreeMap (String Y) (QName × K) → Type 0
  IsGroup u g = AllByRecursion (λ e. e.1.0 ≡ record { uri = u; local_part = string_bytes e.0 }) g.entries

  abbrev pub grouped_entries : List (String Y × BTreeMap (String Y) (QName × K)) → List (QName × K)
  grouped_entries [] = []
  grouped_entries (e ∷ es) = values e.1 ++ grouped_entries es

  -- each URI has at most one group, and the names in a group have the group's URI
  pub record AreGroups (m : BTreeMap (String Y) (BTreeMap (String Y) (QName × K))) : Type 0 where
    pub ordered : IsOrdered string_cmp m
    pub each : AllByRecursion (λ e. IsGroup (string_bytes e.0) e.1) m.entries
