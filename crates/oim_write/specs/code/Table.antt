-- The table of prefixes, and how its URIs are collected (own).
use Rattle.std.specs.Prelude.{◌≡◌, ℕ, List, String, length, map, string_bytes, ◌↔◌, ◌⊎◌, All, Contains, ◌++◌, flat_map}
use Rattle.std.specs.declared.alloc.Global.{Global}
use Rattle.fact_base.specs.Passed.{IsSet}
use Rattle.fact_base.specs.Body.{text_cmp}
use Rattle.oim_names.specs.QName.{QName}
use Rattle.fact_base.specs.Rows.{Row}
use Rattle.fact_base.specs.Shown.{HoldForUris}
use Rattle.oim_write.specs.Rank.{width}
use Rattle.oim_write.specs.Tree.{prefix}
use Rattle.oim_write.specs.Uris.{dimension_names, uris_of_names, value_names}

-- the invariant of a table of prefixes: the URIs ascend, `digits` is the width of the number of URIs, and `prefixes` lists the prefixes of the URIs in order
pub record IsTable (us : List (List ℕ)) (prefixes : List (String Global)) (digits : ℕ) : Type 0 where
  pub rises : IsSet text_cmp us
  pub enough : digits ≡ width (length us)
  pub spelled : map string_bytes prefixes ≡ map (prefix us) us

-- the names in a row's dimensions and values
abbrev pub row_names : Row → List QName
row_names r = dimension_names r.0 ++ flat_map value_names r.1

-- the concepts in the first n rows have this prefix
abbrev pub SharePrefix : List (List ℕ) → List ℕ → ℕ → List Row → Type 0
SharePrefix us text n rs = HoldForUris (λ u. prefix us u ≡ text) n rs

-- `new` contains exactly the URIs of `old` and the URIs of the names
pub record Gains (old : List (List ℕ)) (names : List QName) (new : List (List ℕ)) : Type 0 where
  pub members : (u : List ℕ) → Contains new u ↔ (Contains old u ⊎ Contains (uris_of_names names) u)

-- the name is one of these names, and all have its URI
pub record ShareUri (n : QName) (ns : List QName) : Type 0 where
  pub among : Contains ns n
  pub all : All (λ m. m.uri ≡ n.uri) ns
