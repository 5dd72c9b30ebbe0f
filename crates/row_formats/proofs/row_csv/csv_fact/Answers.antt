use Rattle.row_formats.proofs.Shared.{◌≡◌, [], ◌∷◌, ◌++◌, ap, subst, ◌∙◌, IfOk, decimal, fields_of, verdict_shown, verdict_word, names_of, dimension_fields, evidence_fields, fact_fields, record_text, value_fields}
use Rattle.row_formats.proofs.Pushed.{pushed_three}
use Rattle.row_formats.proofs.row_csv.csv_fact.Goals as goal

pub returns : goal.returns
returns c =
    let name = names_of c.args.judged.now in
    let e = c.args.judged.now.evidence in
    let d = c.args.judged.now.row.dimensions.now in
    let v = c.args.value.now in
    let front = decimal c.args.judged.now.number ∷ verdict_word (verdict_shown e) ∷ name c.args.index ∷ [] in
    let fields : fields_of c.push_evidence.new.fields ≡ fact_fields c.args.cells.spreadsheet c.args.judged.now.number d e (evidence_fields name e) (name c.args.index) v
    = pushed_three [] front (dimension_fields c.args.cells.spreadsheet d ++ value_fields c.args.cells.spreadsheet v) (evidence_fields name e)
    (c.in_ok-push_front.ensures ∙ ap (λ xs. xs ++ front) c.in_ok-record.ensures.fields) c.in_ok-push_fact.ensures c.in_ok-push_evidence.ensures in
    subst (λ fs. IfOk c.text_of_record.result (λ text. text.items ≡ record_text fs)) fields c.text_of_record.ensures
