use Rattle.oim_report.proofs.Shared.{Some, ap, sym, ◌∙◌, view, tree_outcome}
use Rattle.oim_report.proofs.FaultLaws.{accepted_has_none}
use Rattle.oim_report.proofs.findings.faults_reader.is_accepted.Goals as goal

pub returns-in-Ok : goal.returns-in-Ok
returns-in-Ok c _ =
    let tree = view c.args.tree.now in
    accepted_has_none c.args.sheet.now tree c.in-Ok._report.document (ap (λ s. tree_outcome s (Some tree)) (sym c.new.ensures) ∙ c.in-Ok.ensures.ok)
