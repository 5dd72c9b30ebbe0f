use Rattle.row_formats.proofs.Shared.{[], ◌∷◌, codes, ap, Token, array, member, number, object, string, unsigned, ordered_dimensions, Adds-is, Adds-one, closed_object, then_member, verdict_shown, verdict_word, names_of, evidence_members, fact_items, braced}
use Rattle.row_formats.proofs.row_json.write_row.Goals as goal

pub returns : goal.returns
returns c =
    let name = names_of c.args.judged.now in
    let evidence = evidence_members name c.args.judged.now.evidence in
    let word = Adds-is (ap (λ t. Token.string t ∷ []) c.word_of.ensures) (Adds-one c.in_ok-string.ensures) in
    let facts = member (codes "facts") (array (fact_items name 0 c.args.judged.now.row.values.now)) evidence in
    let dimensions = member (codes "dimensions") (object (ordered_dimensions braced c.args.judged.now.row.dimensions.now)) facts in
    let verdict = member (codes "verdict") (string (verdict_word (verdict_shown c.args.judged.now.evidence))) dimensions in
    closed_object c.end_object.result (member (codes "row") (number (unsigned c.args.judged.now.number)) verdict) (Adds-one c.in_ok-begin_object.ensures)
    (then_member (codes "row") (number (unsigned c.args.judged.now.number)) verdict (Adds-one c.in_ok-key.ensures) (Adds-one c.in_ok-u64.ensures)
    (then_member (codes "verdict") (string (verdict_word (verdict_shown c.args.judged.now.evidence))) dimensions (Adds-one c.in_ok-key-2.ensures) word
    (then_member (codes "dimensions") (object (ordered_dimensions braced c.args.judged.now.row.dimensions.now)) facts (Adds-one c.in_ok-key-3.ensures) c.in_ok-write_dimensions.ensures
    (then_member (codes "facts") (array (fact_items name 0 c.args.judged.now.row.values.now)) evidence (Adds-one c.in_ok-key-4.ensures) c.in_ok-write_facts.ensures
    c.in_ok-write_evidence.ensures))))
    c.end_object.ensures
