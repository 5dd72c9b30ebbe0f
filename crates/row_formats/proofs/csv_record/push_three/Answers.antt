use Rattle.row_formats.proofs.Shared.{[], ◌∷◌, on_ok_weaker, fields_of}
use Rattle.row_formats.proofs.Pushed.{pushed_three}
use Rattle.row_formats.proofs.csv_record.push_three.Goals as goal

pub returns : goal.returns
returns c = on_ok_weaker c.push_field-3.result (λ last. pushed_three (fields_of c.args.fields.now) (c.args.first.now ∷ []) (c.args.second.now ∷ []) (c.args.third.now ∷ []) c.in_ok-push_field.ensures.fields c.in_ok-push_field-2.ensures.fields last)
    c.push_field-3.ensures.fields
