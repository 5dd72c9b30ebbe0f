-- The text of a row depends on the identifiers of its facts, and on no other identifiers.
use Rattle.std.proofs.Common.{◌≡◌, ℕ, suc, ◌+◌, ◌<◌, Bool, true, false, List, [], ◌∷◌, ◌++◌, length, codes, refl, arith}
use Rattle.serde_json.specs.Data.{item}
use Rattle.serde_json.specs.Written.{compact_text}
use Rattle.oim_value.specs.declared.value.Value.{Value}
use Rattle.oim_dims.specs.DimensionSet.{DimensionSet}
use Rattle.fact_base.specs.declared.evidence.Evidence.{Evidence}
use Rattle.fact_base.specs.declared.evidence.Evidence.TheVariants.{Alike, Common, Apart}
use Rattle.oim_merge.specs.Judged.{DependsOnItsNames}
use Rattle.oim_merge.specs.Identifiers.{HasIndices}
use Rattle.row_formats.specs.CsvRows.{csv_facts, csv_row, evidence_fields, fact_fields, record_text}
use Rattle.row_formats.specs.JsonRows.{apart_data, evidence_member, evidence_members, fact_data, fact_items, json_row, row_object}
use Rattle.row_formats.specs.Rows.{row_text}
use Rattle.row_formats.specs.declared.row_format.RowFormat.{RowFormat}
use Rattle.row_formats.specs.declared.row_format.RowFormat.TheVariants.{Json, Csv, SpreadsheetCsv}

module _ (name other : ℕ → List ℕ) (n : ℕ) (same : (i : ℕ) → i < n → name i ≡ other i) where
  same_facts : (k : ℕ) (vs : List Value) → k + length vs ≡ n → fact_items name k vs ≡ fact_items other k vs
  same_facts k [] all = refl
  same_facts k (v ∷ vs) all = λ i. item (fact_data (same k (omega (arith, all)) i) v) (same_facts (suc k) vs (omega (arith, all)) i)

  same_evidence : (e : Evidence) → HasIndices n e → evidence_members name e ≡ evidence_members other e
  same_evidence Alike within = refl
  same_evidence (Common c) within = refl
  same_evidence (Apart i j) within = λ k. evidence_member (codes "apart") (apart_data (same i within.0 k) (same j within.1 k))

  same_shown : (e : Evidence) → HasIndices n e → evidence_fields name e ≡ evidence_fields other e
  same_shown Alike within = refl
  same_shown (Common c) within = refl
  same_shown (Apart i j) within = λ k. [] ∷ [] ∷ same i within.0 k ∷ same j within.1 k ∷ []

  same_records : (spreadsheet : Bool) (number : ℕ) (d : DimensionSet) (e : Evidence) (k : ℕ) (vs : List Value) → k + length vs ≡ n → HasIndices n e → csv_facts spreadsheet name number d e k vs ≡ csv_facts spreadsheet other number d e k vs
  same_records spreadsheet number d e k [] all within = refl
  same_records spreadsheet number d e k (v ∷ vs) all within =
      λ i. record_text (fact_fields spreadsheet number d e (same_shown e within i) (same k (omega (arith, all)) i) v) ++ same_records spreadsheet number d e (suc k) vs (omega (arith, all)) within i

same_csv : (spreadsheet : Bool) → DependsOnItsNames (csv_row spreadsheet)
same_csv spreadsheet name other number r e some within same = same_records name other (length r.1) same spreadsheet number r.0 e 0 r.1 (omega arith) within

same_json : DependsOnItsNames json_row
same_json name other number r e some within same =
    λ i. compact_text (row_object number r e (same_facts name other (length r.1) same 0 r.1 (omega arith) i) (same_evidence name other (length r.1) same e within i)) ++ 10 ∷ []

pub same_row : (format : RowFormat) → DependsOnItsNames (row_text format)
same_row Json = same_json
same_row Csv = same_csv false
same_row SpreadsheetCsv = same_csv true
