-- Listings that are appended to a sink (own).
use Rattle.std.specs.Prelude.{◌≡◌, ◌⊎◌, ℕ, List, [], ◌++◌, Option, None, Some, Result, Ok, Err}
use Rattle.std.specs.Io.KnownBytes.{Appends}
use Rattle.oim_report.specs.Sheet.{Sheet}
use Rattle.oim_report.specs.declared.refusal.Refusal.{Refusal}
use Rattle.oim_merge.specs.VerdictCalls.{ListsRows, ListsVerdicts}
use Rattle.oim_merge.specs.Reports.{merged, refused}
use Rattle.oim_merge.specs.SourceCalls.{AppendsMentions, ListsSources}
use Rattle.oim_merge.specs.Traced.{traced}
use Rattle.fact_base.specs.Body.{Body}
use Rattle.oim_merge.specs.declared.fault.Fault.{Fault}
use Rattle.row_formats.specs.Rows.{AreBeyond, header, row_text}
use Rattle.row_formats.specs.SourceRows.{source_header, source_text}
use Rattle.row_formats.specs.declared.row_format.RowFormat.TheVariants.{Json}
use Rattle.xbrlmerge_c.specs.Answers.{NoReason, NoRow, StopsBy}
use Rattle.xbrlmerge_c.specs.Calls.{IsBeyond, IsTextOf}
use Rattle.xbrlmerge_c.specs.declared.row_call.RowCall.{RowCall}
use Rattle.xbrlmerge_c.specs.declared.row_call.RowCall.TheVariants.{Sources, SourcesJson, Verdicts, VerdictsJson}

-- the lines of the accepted reports were appended, and the refusals of the other reports were returned
abbrev pub AppendsRowCall : RowCall → Sheet → List (List ℕ) → Option (List ℕ) → Option (List ℕ) → List (ℕ × Refusal) → Type 0
AppendsRowCall Verdicts = ListsVerdicts
AppendsRowCall Sources = ListsSources
AppendsRowCall VerdictsJson = λ sheet reports. ListsRows (header Json) (row_text Json) (merged sheet reports) (refused sheet reports)
AppendsRowCall SourcesJson = λ sheet reports. AppendsMentions (source_header Json) (source_text Json []) (traced sheet reports)

-- a first part of the listing was appended
pub record AppendsFrontOfListing (call : RowCall) (sheet : Sheet) (reports : List (List ℕ)) (old new : Option (List ℕ)) : Type 0 where
  pub text : List ℕ
  pub is : IsTextOf call sheet reports text
  pub front : List ℕ
  pub rest : List ℕ
  pub whole : text ≡ front ++ rest
  pub appended : Appends old new front

-- nothing was appended, or a first part of the listing
abbrev pub StopsRowCall : RowCall → Sheet → List (List ℕ) → Option (List ℕ) → Option (List ℕ) → Type 0
StopsRowCall call sheet reports old new = Appends old new [] ⊎ AppendsFrontOfListing call sheet reports old new

-- the listing was appended, and the refusals of the other reports were returned; or the call stopped
abbrev pub ListsRowCall : RowCall → Sheet → List (List ℕ) → Option (List ℕ) → Option (List ℕ) → Result (List (ℕ × Refusal)) Fault → Type 0
ListsRowCall call sheet reports old new (Ok returned) = AppendsRowCall call sheet reports old new returned
ListsRowCall call sheet reports old new (Err fault) = StopsBy NoRow NoReason fault × StopsRowCall call sheet reports old new

-- the listing is longer than the bound
pub record IsLongListing (call : RowCall) (bound : Option ℕ) (sheet : Sheet) (reports : List (List ℕ)) : Type 0 where
  pub text : List ℕ
  pub is : IsTextOf call sheet reports text
  pub beyond : IsBeyond bound text

-- the same as `ListsRowCall`, or the listing is longer than the bound
abbrev pub WritesRowCall : RowCall → Option ℕ → Sheet → List (List ℕ) → Option (List ℕ) → Option (List ℕ) → Option (Result (List (ℕ × Refusal)) Fault) → Type 0
WritesRowCall call bound sheet reports old new None = IsLongListing call bound sheet reports
WritesRowCall call bound sheet reports old new (Some result) = ListsRowCall call sheet reports old new result

-- the rows of the body are longer than the bound, if there is one
abbrev pub AreLong : Option ℕ → Body → Type 0
AreLong None b = ⊥
AreLong (Some bound) b = AreBeyond Json b bound
