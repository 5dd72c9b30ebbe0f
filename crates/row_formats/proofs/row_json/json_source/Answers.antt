use Rattle.row_formats.proofs.Shared.{[], ◌∷◌, ◌++◌, ap, ◌∙◌, option_copied, source_data}
use Rattle.row_formats.proofs.Items.{whole_text}
use Rattle.row_formats.proofs.row_json.json_source.Goals as goal

pub returns : goal.returns
returns c =
    let d = source_data c.args.mention.now.report (option_copied c.args.file) c.args.mention.now.identifier c.args.fact.now in
    c.in_ok-push.ensures.items
    ∙ ap (λ t. t ++ 10 ∷ []) (whole_text d (c.new-json.ensures.before ∙ c.new.ensures.items) c.new-json.ensures.tokens c.in_ok-write_source.ensures c.into_inner-line.ensures.items)
