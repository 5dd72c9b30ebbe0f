use Rattle.row_formats.proofs.Shared.{[], ◌∷◌, on_ok_weaker, fields_of}
use Rattle.row_formats.proofs.Pushed.{pushed}
use Rattle.row_formats.proofs.row_csv.push_four.Goals as goal

pub returns : goal.returns
returns c = on_ok_weaker c.push_field.result (λ last. pushed (fields_of c.args.fields.now) (c.args.first.now ∷ c.args.second.now ∷ c.args.third.now ∷ []) (c.args.fourth.now ∷ []) c.in_ok-push_three.ensures last)
    c.push_field.ensures.fields
