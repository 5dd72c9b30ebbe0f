-- A row of a body as one line of JSON (own). In bytes, a line end is 10.
use Rattle.std.specs.Prelude.{ℕ, suc, List, [], ◌∷◌, ◌++◌, codes}
use Rattle.serde_json.specs.Data.{Data, unsigned, number, string, array, object, Items, no_items, item, Members, no_members, member}
use Rattle.serde_json.specs.Written.{compact_text}
use Rattle.oim_value.specs.Plain.{plain}
use Rattle.oim_value.specs.declared.interval.Interval.{Interval}
use Rattle.oim_value.specs.declared.value.Value.{Value}
use Rattle.fact_base.specs.Passed.{value_data}
use Rattle.fact_base.specs.Rows.{Row}
use Rattle.fact_base.specs.declared.evidence.Evidence.{Evidence}
use Rattle.fact_base.specs.declared.evidence.Evidence.TheVariants.{Alike, Common, Apart}
use Rattle.oim_write.specs.Ordered.{decimals_member, ordered_dimensions}
use Rattle.oim_merge.specs.Lines.{verdict_shown, verdict_word}
use Rattle.row_formats.specs.Spelled.{braced}

-- a fact without its dimensions: the row contains the dimensions once
abbrev pub fact_data : List ℕ → Value → Data
fact_data identifier v =
    object (member (codes "fact") (string identifier) (
    member (codes "value") (value_data braced v) (
    decimals_member v no_members)))

-- the facts of a row; the first has index i
abbrev pub fact_items : (ℕ → List ℕ) → ℕ → List Value → Items
fact_items name i [] = no_items
fact_items name i (v ∷ vs) = item (fact_data (name i) v) (fact_items name (suc i) vs)

-- the interval that all facts of a row have in common
abbrev pub common_data : Interval → Data
common_data c = object (member (codes "low") (string (plain c.low)) (member (codes "high") (string (plain c.high)) no_members))

-- the identifiers of two facts that do not meet
abbrev pub apart_data : List ℕ → List ℕ → Data
apart_data first second = array (item (string first) (item (string second) no_items))

abbrev pub evidence_member : List ℕ → Data → Members
evidence_member key d = member (codes "evidence") (object (member key d no_members)) no_members

-- the member `evidence`, given the identifiers of the facts; absent if the row has a single fact
abbrev pub evidence_members : (ℕ → List ℕ) → Evidence → Members
evidence_members name Alike = no_members
evidence_members name (Common c) = evidence_member (codes "common") (common_data c)
evidence_members name (Apart i j) = evidence_member (codes "apart") (apart_data (name i) (name j))

-- a row: its number, the word for its verdict, its dimensions, its facts and its evidence
abbrev pub row_object : ℕ → Row → Evidence → Items → Members → Data
row_object n r e facts evidence =
    object (member (codes "row") (number (unsigned n)) (
    member (codes "verdict") (string (verdict_word (verdict_shown e))) (
    member (codes "dimensions") (object (ordered_dimensions braced r.0)) (
    member (codes "facts") (array facts) evidence))))

abbrev pub row_data : (ℕ → List ℕ) → ℕ → Row → Evidence → Data
row_data name n r e = row_object n r e (fact_items name 0 r.1) (evidence_members name e)

abbrev pub json_row : (ℕ → List ℕ) → ℕ → Row → Evidence → List ℕ
json_row name n r e = compact_text (row_data name n r e) ++ 10 ∷ []
