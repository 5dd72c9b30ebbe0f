-- A row of a body as CSV, one record for each fact (RFC 4180; the columns are our own).
use Rattle.std.specs.Prelude.{ℕ, suc, Bool, ◌==◌, if◌then◌else◌, List, [], ◌∷◌, ◌++◌, codes, length, Option, Some, None, ℤ}
use Rattle.std.specs.Fmt.{decimal, signed_decimal}
use Rattle.std.specs.Option.{unwrap_or}
use Rattle.csv.specs.Writing.{default_writer, row_text, with_terminator}
use Rattle.csv.specs.declared.parser.Terminator.TheVariants as term
use Rattle.csv.specs.declared.writer.WriterBuilder.{WriterBuilder}
use Rattle.serde_json.specs.Data.{object, no_members}
use Rattle.serde_json.specs.Written.{compact_text}
use Rattle.oim_names.specs.QName.{QName}
use Rattle.oim_value.specs.Plain.{plain}
use Rattle.oim_value.specs.declared.value.Value.{Value}
use Rattle.oim_value.specs.declared.value.Value.TheVariants.{Nil, Number, Text as AText, Name as AName}
use Rattle.oim_dims.specs.DimensionSet.{DimensionSet}
use Rattle.oim_dims.specs.Period.{period_text}
use Rattle.oim_dims.specs.declared.member.Member.{Member}
use Rattle.fact_base.specs.Passed.{option_spelled, option_unit_text}
use Rattle.fact_base.specs.Rows.{Row}
use Rattle.fact_base.specs.declared.evidence.Evidence.{Evidence}
use Rattle.fact_base.specs.declared.evidence.Evidence.TheVariants.{Alike, Common, Apart}
use Rattle.oim_write.specs.Ordered.{defined_members}
use Rattle.oim_merge.specs.Lines.{verdict_shown, verdict_word}
use Rattle.row_formats.specs.CsvCells.{cell}
use Rattle.row_formats.specs.Spelled.{braced}

-- commas between fields, quotes around a field that needs them, doubled quotes inside it, and CRLF after each record (RFC 4180)
abbrev pub rfc_4180 : WriterBuilder
rfc_4180 = with_terminator default_writer term.CRLF

abbrev pub record_text : List (List ℕ) → List ℕ
record_text = row_text rfc_4180

abbrev pub columns : List (List ℕ)
columns =
    codes "row" ∷ codes "verdict" ∷ codes "fact"
    ∷ codes "concept" ∷ codes "entity" ∷ codes "period" ∷ codes "unit" ∷ codes "language" ∷ codes "dimensions"
    ∷ codes "value" ∷ codes "nil" ∷ codes "decimals"
    ∷ codes "common_low" ∷ codes "common_high" ∷ codes "apart_first" ∷ codes "apart_second" ∷ []

-- ---- the fields of a fact

abbrev pub or_empty : Option (List ℕ) → List ℕ
or_empty o = unwrap_or o []

-- the taxonomy-defined dimensions as a JSON object, or an empty text if there are none
abbrev pub defined_text : List (QName × Member) → List ℕ
defined_text es = if length es == 0 then [] else compact_text (object (defined_members braced es no_members))

abbrev pub dimension_fields : Bool → DimensionSet → List (List ℕ)
dimension_fields spreadsheet d =
    cell spreadsheet (braced d.concept) ∷ cell spreadsheet (or_empty (option_spelled braced d.entity)) ∷ cell spreadsheet (or_empty (period_text d.period))
    ∷ cell spreadsheet (or_empty (option_unit_text braced d.unit)) ∷ cell spreadsheet (or_empty d.language) ∷ cell spreadsheet (defined_text d.members) ∷ []

-- finite decimals as text; empty for infinite decimals
abbrev pub decimals_text : Option ℤ → List ℕ
decimals_text None = []
decimals_text (Some d) = signed_decimal d

-- three fields: the value (empty for nil), `true` for nil and otherwise empty, and the decimals (empty unless they are finite)
abbrev pub value_fields : Bool → Value → List (List ℕ)
value_fields spreadsheet Nil = [] ∷ codes "true" ∷ [] ∷ []
value_fields spreadsheet (Number units places) = plain units ∷ [] ∷ decimals_text places ∷ []
value_fields spreadsheet (AText t) = cell spreadsheet t ∷ [] ∷ [] ∷ []
value_fields spreadsheet (AName n) = cell spreadsheet (braced n) ∷ [] ∷ [] ∷ []

-- the fields of the evidence, given the identifiers of the facts
abbrev pub evidence_fields : (ℕ → List ℕ) → Evidence → List (List ℕ)
evidence_fields name Alike = [] ∷ [] ∷ [] ∷ [] ∷ []
evidence_fields name (Common c) = plain c.low ∷ plain c.high ∷ [] ∷ [] ∷ []
evidence_fields name (Apart i j) = [] ∷ [] ∷ name i ∷ name j ∷ []

-- the fields of a fact with this identifier, in the row with this number
abbrev pub fact_fields : Bool → ℕ → DimensionSet → Evidence → List (List ℕ) → List ℕ → Value → List (List ℕ)
fact_fields spreadsheet n d e shown identifier v =
    (decimal n ∷ verdict_word (verdict_shown e) ∷ identifier ∷ []) ++ (dimension_fields spreadsheet d ++ (value_fields spreadsheet v ++ shown))

-- ---- rows

-- the records of facts in a row; the first fact has index i
abbrev pub csv_facts : Bool → (ℕ → List ℕ) → ℕ → DimensionSet → Evidence → ℕ → List Value → List ℕ
csv_facts spreadsheet name n d e i [] = []
csv_facts spreadsheet name n d e i (v ∷ vs) =
    record_text (fact_fields spreadsheet n d e (evidence_fields name e) (name i) v) ++ csv_facts spreadsheet name n d e (suc i) vs

abbrev pub csv_row : Bool → (ℕ → List ℕ) → ℕ → Row → Evidence → List ℕ
csv_row spreadsheet name n r e = csv_facts spreadsheet name n r.0 e 0 r.1
