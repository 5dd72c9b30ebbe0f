-- The contents of a report (xBRL-JSON 1.0, sections 2 and 3; the order of facts is own).
use Rattle.std.specs.Prelude.{◌≡◌, ℕ, List, Some}
use Rattle.std.specs.List.{AllZip}
use Rattle.oim_names.specs.Bindings.{Binding}
use Rattle.oim_value.specs.declared.level.Level.{Level}
use Rattle.oim_dims.specs.declared.fact.Fact.{Fact}
use Rattle.serde_json.specs.Data.{Data}
use Rattle.oim_report.specs.Fact.{SaysFact}
use Rattle.oim_report.specs.Info.{bindings_of, facts_of, references_said, level_said}
use Rattle.oim_report.specs.Json.{json, values}
use Rattle.oim_report.specs.FactMembers.{FactMembers, fact_parts}
use Rattle.oim_report.specs.Sheet.{Sheet}

-- a report's facts with repeats, in byte order of their identifiers (law `identifiers_rise`); the kept texts of its references,
-- in the order of `taxonomy`; and its declared level of duplicates (`All` if none is declared)
pub record Document : Type 0 where
  pub facts : List Fact
  pub references : List (List ℕ)
  pub level : Level

-- the parts of a fact object denote this fact
pub record ObjectSays (sheet : Sheet) (bs : List Binding) (object : Data) (said : Fact) : Type 0 where
  pub parts : FactMembers
  pub are : fact_parts object ≡ Some parts
  pub says : SaysFact sheet bs parts said

-- the document that a report's bytes denote under a sheet; each fact object denotes the fact with the same index
pub record SaysDocument (sheet : Sheet) (bytes : List ℕ) (document : Document) : Type 0 where
  pub tree : Data
  pub read : json bytes ≡ Some tree
  pub facts : AllZip (ObjectSays sheet (bindings_of tree)) (values (facts_of tree)) document.facts
  pub references : references_said tree ≡ Some document.references
  pub level : level_said tree ≡ Some document.level

-- a report's bytes denote at most one document under a sheet (own)
abbrev pub SaysOneDocument : Type 0
SaysOneDocument = (sheet : Sheet) (bytes : List ℕ) (d e : Document) → SaysDocument sheet bytes d → SaysDocument sheet bytes e → d ≡ e
