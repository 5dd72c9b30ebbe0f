-- The result of checking an accepted report (own).
use Rattle.std.specs.Prelude.{◌≡◌, ◌↔◌, ℕ, List, [], ◌∷◌, length, IsTrue, Ok}
use Rattle.oim_report.specs.Document.{Document}
use Rattle.oim_report.specs.Duplicates.{level_of}
use Rattle.oim_report.specs.Outcome.{outcome}
use Rattle.oim_report.specs.Sheet.{Sheet}
use Rattle.fact_base.specs.Body.{body}
use Rattle.oim_write.specs.Bytes.{canonical}
use Rattle.oim_merge.specs.declared.checked.Checked.{Checked}

-- the bytes are the canonical text of the document
abbrev pub IsCanonicalOf : Document → List ℕ → Type 0
IsCanonicalOf d bytes = bytes ≡ canonical (body (d ∷ []))

-- the report is accepted. The result contains the number of facts, repeats included, the strictest level that the facts satisfy, and
-- whether the bytes are canonical.
pub record IsChecked (sheet : Sheet) (bytes : List ℕ) (checked : Checked) : Type 0 where
  pub document : Document
  pub read : outcome sheet bytes ≡ Ok document
  pub facts : checked.facts ≡ length document.facts
  pub level : checked.level ≡ level_of document.facts
  pub canonical_is : IsTrue checked.canonical ↔ IsCanonicalOf document bytes
