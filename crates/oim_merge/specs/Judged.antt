-- Valid judged rows, and their texts (own).
use Rattle.std.specs.Prelude.{◌≡◌, ℕ, ◌+◌, ◌<◌, ◌≤◌, List, length}
use Rattle.fact_base.specs.Rows.{Row}
use Rattle.fact_base.specs.Shown.{shown}
use Rattle.fact_base.specs.declared.evidence.Evidence.{Evidence}
use Rattle.oim_merge.specs.Lines.{RowText}
use Rattle.oim_merge.specs.Identifiers.{HasIndices, named}
use Rattle.oim_merge.specs.declared.verdict_format.JudgedRow.{JudgedRow}

-- the row has values; the number of facts up to the end of the row is at most the number of all facts; the indices in the evidence are in range
pub record IsJudged (j : JudgedRow) : Type 0 where
  pub some : 0 < length j.row.values.now
  pub room : j.identifiers.before + length j.row.values.now ≤ j.identifiers.count
  pub indices : HasIndices (length j.row.values.now) j.evidence

-- the identifiers of the facts in a judged row
abbrev pub names_of : JudgedRow → ℕ → List ℕ
names_of j = named j.identifiers.before j.identifiers.count

abbrev pub judged_text : RowText → JudgedRow → List ℕ
judged_text written j = written (names_of j) j.number (shown j.row) j.evidence

-- the text of a row depends on the identifiers of its facts, and on no other identifiers
abbrev pub DependsOnItsNames : RowText → Type 0
DependsOnItsNames written =
    (name other : ℕ → List ℕ) (number : ℕ) (r : Row) (e : Evidence) → 0 < length r.1 → HasIndices (length r.1) e →
    ((i : ℕ) → i < length r.1 → name i ≡ other i) → written name number r e ≡ written other number r e
