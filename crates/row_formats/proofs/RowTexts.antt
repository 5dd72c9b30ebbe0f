-- The rows of a base have one text as JSON and as CSV, and tell its verdicts.
use Rattle.row_formats.proofs.Shared.{◌≡◌, ℕ, suc, Bool, true, false, List, [], ◌∷◌, ◌++◌, append_assoc, codes, length, refl, ap, subst, ◌∙◌, sym, decimal, array, object, string, Items, Members, member, compact_text, members_text, Value, DimensionSet, Row, Evidence, ordered_dimensions, identifier_at, line_text, verdict_shown, verdict_word, csv_facts, evidence_fields, fact_fields, record_text, evidence_members, fact_items, row_object, HasField, LineShows, RecordsShow, RowsAreOne, RowsTellVerdicts, Shows, header, row_text, braced, RowFormat, Json, Csv, SpreadsheetCsv}
use Rattle.std.proofs.lemmas.List.Elements.{All-cons, All-nil}
use Rattle.json.specs.Print.{escape_byte}
use Rattle.fact_base.specs.declared.evidence.Evidence.TheVariants.{Alike, Common, Apart}
use Rattle.oim_merge.proofs.Evidenced.{lines_tell_verdicts}
use Rattle.oim_merge.proofs.RowLists.{rows_are_one as one_list}

pub rows_are_one : RowsAreOne
rows_are_one format sheet b fits =
    let one = one_list (row_text format) sheet b fits in
    record {
      text = header format ++ one.text;
      is = record { rows = one.text; are = one.is; whole = refl };
      only = λ other are. are.whole ∙ ap (λ rows. header format ++ rows) (one.only are.rows are.are);
    }

-- ---- the word for a verdict

word_first : (e : Evidence) (ms : Members) →
    members_text true (member (codes "verdict") (string (verdict_word (verdict_shown e))) ms) ++ 10 ∷ []
    ≡ codes ",\"verdict\":\"" ++ (verdict_word (verdict_shown e) ++ 34 ∷ (members_text true ms ++ 10 ∷ []))
unfolding escape_byte
word_first Alike ms = refl
word_first (Common c) ms = refl
word_first (Apart i j) ms = refl

object_shows : (n : ℕ) (r : Row) (e : Evidence) (facts : Items) (evidence : Members) → LineShows n (verdict_word (verdict_shown e)) (compact_text (row_object n r e facts evidence) ++ 10 ∷ [])
unfolding escape_byte
object_shows n r e facts evidence =
    let others : Members = member (codes "dimensions") (object (ordered_dimensions braced r.0)) (member (codes "facts") (array facts) evidence) in
    let worded : Members = member (codes "verdict") (string (verdict_word (verdict_shown e))) others in (
      members_text true others ++ 10 ∷ [],
      ap (λ t. codes "{\"row\":" ++ t) (append_assoc (decimal n) (members_text true worded) (10 ∷ []) ∙ ap (λ t. decimal n ++ t) (word_first e others)),
    )

record_shows : (spreadsheet : Bool) (name : ℕ → List ℕ) (n : ℕ) (d : DimensionSet) (e : Evidence) (i : ℕ) (vs : List Value) →
    RecordsShow (length vs) n (verdict_word (verdict_shown e)) (csv_facts spreadsheet name n d e i vs)
record_shows spreadsheet name n d e i [] = record { records = []; counted = refl; numbered = All-nil _; worded = All-nil _; whole = refl }
record_shows spreadsheet name n d e i (v ∷ vs) =
    let fields = fact_fields spreadsheet n d e (evidence_fields name e) (name i) v in
    let more = record_shows spreadsheet name n d e (suc i) vs in
    record {
      records = fields ∷ more.records;
      counted = ap suc more.counted;
      numbered = All-cons (HasField (codes "row") (decimal n)) fields more.records (0, (refl, refl)) more.numbered;
      worded = All-cons (HasField (codes "verdict") (verdict_word (verdict_shown e))) fields more.records (1, (refl, refl)) more.worded;
      whole = ap (λ t. record_text fields ++ t) more.whole;
    }

row_shows : (format : RowFormat) (name : ℕ → List ℕ) (n : ℕ) (r : Row) (e : Evidence) → Shows format n r (verdict_word (verdict_shown e)) (row_text format name n r e)
row_shows Json name n r e = object_shows n r e (fact_items name 0 r.1) (evidence_members name e)
row_shows Csv name n r e = record_shows false name n r.0 e 0 r.1
row_shows SpreadsheetCsv name n r e = record_shows true name n r.0 e 0 r.1

pub rows_tell_verdicts : RowsTellVerdicts
rows_tell_verdicts format sheet b fits r at number text is =
    let name = identifier_at b.facts r in
    let word = verdict_word (verdict_shown is.evidence) in (
      verdict_shown is.evidence,
      (
        lines_tell_verdicts sheet b fits r at number (line_text name number r is.evidence) (record { evidence = is.evidence; shows = is.shows; text = refl }),
        subst (Shows format number r word) (sym is.text) (row_shows format name number r is.evidence),
      ),
    )
