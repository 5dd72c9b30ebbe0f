use Rattle.row_formats.proofs.Shared.{[], ◌∷◌, ◌++◌, take, sym, ap, ◌∙◌, arith, length-take-le, take_more, names_of, csv_facts, evidence_fields, fact_fields, record_text}
use Rattle.row_formats.proofs.Pushed.{next_record}
use Rattle.row_formats.proofs.row_csv.csv_row.Goals as goal

pub loop-index-preserved : goal.loop-index-preserved
loop-index-preserved c =
    let l = c.loop-index in
    let name = names_of c.args.judged.now in
    let vs = c.args.judged.now.row.values.now in
    let v = c.value-item.result in
    let d = c.args.judged.now.row.dimensions.now in
    let e = c.args.judged.now.evidence in
    let more = take_more vs l.index v (omega arith) ∙ ap (λ x. take l.index vs ++ x ∷ []) (sym c.value-item.is) in
    c.in_ok-extend_from_slice.ensures.items
    ∙ ap (λ t. l.text.items ++ t) (c.as_slice.ensures.value ∙ c.in_ok-record.ensures)
    ∙ ap (λ t. t ++ record_text (fact_fields c.args.spreadsheet c.args.judged.now.number d e (evidence_fields name e) (name l.index) v)) l.invariant
    ∙ sym (next_record c.args.spreadsheet name c.args.judged.now.number d e 0 (take l.index vs) v l.index (omega (arith, length-take-le l.index vs (omega arith))))
    ∙ ap (csv_facts c.args.spreadsheet name c.args.judged.now.number d e 0) (sym more)
