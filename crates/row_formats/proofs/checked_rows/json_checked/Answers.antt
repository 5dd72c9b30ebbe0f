use Rattle.std.proofs.Common.{[], ◌∷◌, ◌++◌, ap, ◌∙◌}
use Rattle.std.specs.Option.{option_copied}
use Rattle.row_formats.specs.CheckedRows.{checked_data}
use Rattle.row_formats.proofs.Items.{whole_text}
use Rattle.row_formats.proofs.checked_rows.json_checked.Goals as goal

pub returns : goal.returns
returns c =
    let d = checked_data c.args.report (option_copied c.args.file) c.args.checked.now in
    c.in_ok-push.ensures.items
    ∙ ap (λ t. t ++ 10 ∷ []) (whole_text d (c.new-json.ensures.before ∙ c.new.ensures.items) c.new-json.ensures.tokens c.in_ok-write_checked.ensures c.into_inner-line.ensures.items)
