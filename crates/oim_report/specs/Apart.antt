-- Two facts of a report that its declared level does not allow together (own).
use Rattle.std.specs.Prelude.{◌≡◌, ◌==◌, ◌&&◌, ℕ, List, Bool, false, not, IsTrue, Some, None, Ok, slice_get}
use Rattle.std.specs.Option.{option_map_or}
use Rattle.oim_value.specs.declared.level.Level.{Level}
use Rattle.oim_dims.specs.declared.fact.Fact.{Fact}
use Rattle.serde_json.specs.Data.{Data}
use Rattle.oim_report.specs.Duplicates.{allows}
use Rattle.oim_report.specs.Holds.{document_refusal}
use Rattle.oim_report.specs.Info.{bindings_of, facts_of, level_said}
use Rattle.oim_report.specs.Outcome.{facts_said}
use Rattle.oim_report.specs.Sheet.{Sheet}

-- i and j differ, there are facts at both indices, and the level does not allow them together
abbrev pub are_apart : Level → List Fact → ℕ → ℕ → Bool
are_apart level facts i j = not (i == j) && option_map_or (λ f. option_map_or (λ g. not (allows level f g)) (slice_get facts j) false) (slice_get facts i) false

-- no condition applies to the document; it denotes these facts and declares this level, which does not allow the facts at i and j
-- together
pub record AreFactsApart (sheet : Sheet) (tree : Data) (i j : ℕ) : Type 0 where
  pub facts : List Fact
  pub level : Level
  pub accepted : document_refusal tree ≡ None
  pub said : facts_said sheet (bindings_of tree) (facts_of tree) ≡ Ok facts
  pub declared : level_said tree ≡ Some level
  pub apart : IsTrue (are_apart level facts i j)
