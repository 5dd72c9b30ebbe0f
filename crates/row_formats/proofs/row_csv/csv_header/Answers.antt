use Rattle.row_formats.proofs.Shared.{◌≡◌, [], ◌∷◌, ◌++◌, codes, ap, ◌∙◌, IfOk-weaker, fields_of, columns, record_text}
use Rattle.row_formats.proofs.Pushed.{pushed_four}
use Rattle.row_formats.proofs.row_csv.csv_header.Goals as goal

pub returns : goal.returns
returns c =
    let fields : fields_of c.push_four-4.new.fields ≡ columns = pushed_four []
    (codes "row" ∷ codes "verdict" ∷ codes "fact" ∷ codes "concept" ∷ [])
    (codes "entity" ∷ codes "period" ∷ codes "unit" ∷ codes "language" ∷ [])
    (codes "dimensions" ∷ codes "value" ∷ codes "nil" ∷ codes "decimals" ∷ [])
    (codes "common_low" ∷ codes "common_high" ∷ codes "apart_first" ∷ codes "apart_second" ∷ [])
    (c.in_ok-push_four.ensures ∙ ap (λ xs. xs ++ codes "row" ∷ codes "verdict" ∷ codes "fact" ∷ codes "concept" ∷ []) c.new-record.ensures.fields)
    c.in_ok-push_four-2.ensures c.in_ok-push_four-3.ensures c.in_ok-push_four-4.ensures in
    IfOk-weaker c.text_of_record.result _ _ (λ text is. is ∙ ap record_text fields) c.text_of_record.ensures
