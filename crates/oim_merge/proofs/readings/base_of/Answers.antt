use Rattle.oim_merge.proofs.Shared.{[], ◌∷◌, sym, ap, ◌∙◌, Body, body, union, Contents, body_of_both}
use Rattle.oim_merge.proofs.readings.base_of.Goals as goal

pub returns : goal.returns
returns c =
    let sheet = c.args.sheet.now in
    let document = c.args.report.document in
    c.in_ok-absorb_report.ensures.ok
    ∙ ap (λ (x : Contents). let y : Contents = record { sheet = x.sheet; body = union x.body (body (document ∷ [])) } in y) c.new-base.ensures
    ∙ ap (λ (b : Body). let y : Contents = record { sheet = sheet; body = b } in y) (sym (body_of_both [] (document ∷ [])))
