use Rattle.row_formats.proofs.Shared.{[], ◌∷◌, ◌++◌, ap, ◌∙◌, shown, names_of, row_data}
use Rattle.row_formats.proofs.Items.{whole_text}
use Rattle.row_formats.proofs.row_json.json_row.Goals as goal

pub returns : goal.returns
returns c =
    let d = row_data (names_of c.args.judged.now) c.args.judged.now.number (shown c.args.judged.now.row) c.args.judged.now.evidence in
    c.in_ok-push.ensures.items
    ∙ ap (λ t. t ++ 10 ∷ []) (whole_text d (c.new-json.ensures.before ∙ c.in_ok-with_capacity.ensures.items) c.new-json.ensures.tokens c.in_ok-write_row.ensures c.into_inner-line.ensures.items)
