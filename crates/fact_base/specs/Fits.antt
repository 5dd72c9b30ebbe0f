-- The conditions that a body satisfies if its documents were read under a sheet (own).
use Rattle.std.specs.Prelude.{◌≡◌, ℕ, List, Ok}
use Rattle.std.specs.List.{All}
use Rattle.oim_report.specs.Document.{Document}
use Rattle.oim_report.specs.FactFits.{FactFits}
use Rattle.oim_report.specs.References.{IsKeptReference}
use Rattle.oim_report.specs.Outcome.{outcome}
use Rattle.oim_report.specs.Sheet.{Sheet}
use Rattle.fact_base.specs.Body.{Body, body, union}
use Rattle.fact_base.specs.BodyLaws.{IsBody}

-- all facts fit the sheet, all references satisfy `IsKeptReference`, and both lists ascend strictly
pub record Fits (sheet : Sheet) (b : Body) : Type 0 where
  pub rises : IsBody b
  pub facts : All (FactFits sheet) b.facts
  pub references : All IsKeptReference b.references

-- reading some bytes under the sheet returns this document
abbrev pub IsAccepted : Sheet → Document → Type 0
IsAccepted sheet d = (bytes : List ℕ) × (outcome sheet bytes ≡ Ok d)

-- the body of documents that are accepted under a sheet fits the sheet
abbrev pub AcceptedFits : Type 0
AcceptedFits = (sheet : Sheet) (docs : List Document) → All (IsAccepted sheet) docs → Fits sheet (body docs)

-- if two bodies fit a sheet, so does their union
abbrev pub UnionFits : Type 0
UnionFits = (sheet : Sheet) (a b : Body) → Fits sheet a → Fits sheet b → Fits sheet (union a b)
