-- The identifiers of a report's facts (xBRL-JSON 1.0, section 2: the keys of `facts`; their order is own).
use Rattle.std.specs.Prelude.{◌≡◌, ℕ, List, map, Ok, Option, Some, option_map}
use Rattle.std.specs.List.{AllZip}
use Rattle.std.specs.List.Sorted.{IsStrictlySortedBy}
use Rattle.std.specs.Ordering.{nat_cmp}
use Rattle.std.specs.Cmp.Lexicographic.{slice_cmp}
use Rattle.oim_names.specs.Bindings.{Binding}
use Rattle.oim_dims.specs.declared.fact.Fact.{Fact}
use Rattle.serde_json.specs.Data.{Data}
use Rattle.oim_report.specs.Document.{Document, ObjectSays}
use Rattle.oim_report.specs.Info.{bindings_of, facts_of}
use Rattle.oim_report.specs.Json.{json, entries}
use Rattle.oim_report.specs.Outcome.{outcome}
use Rattle.oim_report.specs.Sheet.{Sheet}

abbrev pub identifiers_in : List (List ℕ × Data) → List (List ℕ)
identifiers_in objects = map (λ o. o.0) objects

abbrev pub tree_identifiers : Data → List (List ℕ)
tree_identifiers tree = identifiers_in (entries (facts_of tree))

-- the identifiers in a file's bytes, or None if the bytes are not JSON
abbrev pub identifiers : List ℕ → Option (List (List ℕ))
identifiers bytes = option_map tree_identifiers (json bytes)

-- if the bytes are JSON, the listed identifiers are in strictly ascending byte order, whatever their order in the file
abbrev pub IdentifiersRise : Type 0
IdentifiersRise = (bytes : List ℕ) (tree : Data) → json bytes ≡ Some tree → IsStrictlySortedBy (slice_cmp nat_cmp) (tree_identifiers tree)

abbrev pub IdentifierSays : Sheet → List Binding → List ℕ × Data → Fact → Type 0
IdentifierSays sheet bs object said = ObjectSays sheet bs object.1 said

-- the identifiers of a document's facts; the object under each identifier denotes the fact with the same index
pub record Identify (sheet : Sheet) (bytes : List ℕ) (document : Document) (is : List (List ℕ)) : Type 0 where
  pub tree : Data
  pub read : json bytes ≡ Some tree
  pub are : identifiers_in (entries (facts_of tree)) ≡ is
  pub say : AllZip (IdentifierSays sheet (bindings_of tree)) (entries (facts_of tree)) document.facts

-- the identifiers in the bytes of an accepted report are the identifiers of its facts, as in `Identify`
abbrev pub EachFactHasAnIdentifier : Type 0
EachFactHasAnIdentifier =
    (sheet : Sheet) (bytes : List ℕ) (d : Document) → outcome sheet bytes ≡ Ok d → (is : List (List ℕ)) × (identifiers bytes ≡ Some is) × Identify sheet bytes d is
