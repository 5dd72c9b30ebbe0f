-- A report after it is read (own).
use Rattle.std.specs.Prelude.{◌≡◌, ℕ, List, All, Ok, length, slice_get}
use Rattle.std.specs.List.{range_with_len}
use Rattle.std.specs.List.Sorted.{IsPermutation, IsSorted}
use Rattle.std.specs.Option.{option_cmp}
use Rattle.std.specs.declared.cmp.Ordering.{Ordering}
use Rattle.oim_dims.specs.FactOrder.{fact_cmp}
use Rattle.oim_dims.specs.declared.fact.Fact.{Fact}
use Rattle.oim_report.specs.Document.{Document, SaysDocument}
use Rattle.oim_report.specs.FactFits.{FactFits}
use Rattle.oim_report.specs.References.{IsKeptReference}
use Rattle.oim_report.specs.Outcome.{outcome}
use Rattle.oim_report.specs.Sheet.{Sheet}

-- the sheet of a report, its document, and the indices of its facts, sorted by fact
pub record Reading : Type 0 where
  pub sheet : Sheet
  pub document : Document
  pub order : List ℕ

-- compares the facts at two indices
abbrev pub index_cmp : List Fact → ℕ → ℕ → Ordering
index_cmp facts i j = option_cmp fact_cmp (slice_get facts i) (slice_get facts j)

-- all indices of a list, each once, sorted by fact
pub record IsOrderOf (facts : List Fact) (indices : List ℕ) : Type 0 where
  pub each_once : IsPermutation (range_with_len 0 (length facts)) indices
  pub rising : IsSorted (index_cmp facts) indices

-- each fact fits the sheet, each reference is a kept text, and `order` sorts the facts
pub record IsReading (r : Reading) : Type 0 where
  pub facts : All (FactFits r.sheet) r.document.facts
  pub references : All IsKeptReference r.document.references
  pub order : IsOrderOf r.document.facts r.order

-- the bytes of an accepted report denote its document
abbrev pub OutcomesAreSaid : Type 0
OutcomesAreSaid = (sheet : Sheet) (bytes : List ℕ) (d : Document) → outcome sheet bytes ≡ Ok d → SaysDocument sheet bytes d

-- the facts of an accepted report fit the sheet
abbrev pub AcceptedFactsFit : Type 0
AcceptedFactsFit = (sheet : Sheet) (bytes : List ℕ) (d : Document) → outcome sheet bytes ≡ Ok d → All (FactFits sheet) d.facts

-- each reference of an accepted report is a kept text
abbrev pub AcceptedReferencesAreKept : Type 0
AcceptedReferencesAreKept = (sheet : Sheet) (bytes : List ℕ) (d : Document) → outcome sheet bytes ≡ Ok d → All IsKeptReference d.references
