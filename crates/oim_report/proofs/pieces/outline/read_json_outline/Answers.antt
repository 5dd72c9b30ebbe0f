use Rattle.oim_report.proofs.Shared.{sym, ◌∙◌, subst, IsUtf8, view}
use Rattle.oim_report.proofs.FoundInOrder.{json_outline}
use Rattle.oim_report.proofs.pieces.outline.read_json_outline.Goals as goal

pub returns-in-Ok : goal.returns-in-Ok
returns-in-Ok c =
    let h = c.in-Ok.ensures.cases in
    json_outline c.read_outline.result (λ o. view o.tree) (λ o. o.facts.now) c.args.bytes.now c.in-Ok.text.now c.read_outline.ensures (subst IsUtf8 (sym h.0) h.1) (h.0 ∙ c.after_mark.ensures)
