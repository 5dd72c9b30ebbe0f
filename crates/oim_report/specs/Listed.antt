-- The names that a sheet lists, in terms of the members of its JSON objects (own).
use Rattle.std.specs.Prelude.{◌≡◌, ◌⊎◌, ◌↔◌, ℕ, List, Option, Some, Ok, option_and_then}
use Rattle.std.specs.FinMap as map
use Rattle.oim_names.specs.QName.{QName}
use Rattle.oim_names.specs.Bindings.{Binding}
use Rattle.oim_names.specs.Expansion.{Expands}
use Rattle.serde_json.specs.Data.{Data, Members, no_members, member}
use Rattle.oim_report.specs.declared.concept_kind.ConceptKind.{ConceptKind}
use Rattle.oim_report.specs.declared.dimension_kind.DimensionKind.{DimensionKind}
use Rattle.oim_report.specs.Json.{given, json, text_of}
use Rattle.oim_report.specs.Sheet.{Sheet, concept_kind_named, dimension_kind_named, sheet_bindings, sheet_concepts, sheet_dimensions, sheet_outcome}

-- one of the members has this key and this value
abbrev pub StandsIn : List ℕ → Data → Members → Type 0
StandsIn key value no_members = ⊥
StandsIn key value (member k d ms) = ((key ≡ k) × (value ≡ d)) ⊎ StandsIn key value ms

-- some key expands to the name, and its value is a text that names the kind
pub record SaysKind {K : Type 0} (kind_named : List ℕ → Option K) (bs : List Binding) (ms : Members) (n : QName) (k : K) : Type 0 where
  pub key : List ℕ
  pub value : Data
  pub stands : StandsIn key value ms
  pub name : Expands bs key n
  pub kind : option_and_then kind_named (text_of (given value)) ≡ Some k

-- an accepted sheet lists a concept with a kind exactly if a key of `concepts` expands to the concept and the key's value names
-- the kind
abbrev pub ConceptsAreListed : Type 0
ConceptsAreListed =
    (bytes : List ℕ) (tree : Data) (sheet : Sheet) (n : QName) (k : ConceptKind) → json bytes ≡ Some tree → sheet_outcome bytes ≡ Ok sheet →
    (map.get sheet.concepts n ≡ Some k) ↔ SaysKind concept_kind_named (sheet_bindings tree) (sheet_concepts tree) n k

-- an accepted sheet lists a dimension with a kind exactly if a key of `dimensions` expands to the dimension and the key's value
-- names the kind
abbrev pub DimensionsAreListed : Type 0
DimensionsAreListed =
    (bytes : List ℕ) (tree : Data) (sheet : Sheet) (n : QName) (k : DimensionKind) → json bytes ≡ Some tree → sheet_outcome bytes ≡ Ok sheet →
    (map.get sheet.dimensions n ≡ Some k) ↔ SaysKind dimension_kind_named (sheet_bindings tree) (sheet_dimensions tree) n k
