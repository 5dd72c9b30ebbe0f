use Rattle.oim_report.proofs.Shared.{sym, ap, ◌∙◌, option_and_then, view, misdeclared}
use Rattle.oim_report.proofs.ShownFaults.{feature_shown}
use Rattle.oim_report.proofs.document.document_part.refused_feature.Goals as goal

pub returns-in-Some : goal.returns-in-Some
returns-in-Some c =
    let tree = view c.args.tree.now in
    c.feature_with.ensures ∙ ap (option_and_then (λ bs. misdeclared bs tree)) (sym c.in-Some.is ∙ c.in_ok-aliases.ensures) ∙ feature_shown tree

pub returns-in-None : goal.returns-in-None
returns-in-None c =
    let tree = view c.args.tree.now in
    ap (option_and_then (λ bs. misdeclared bs tree)) (sym c.in-None.is ∙ c.in_ok-aliases.ensures) ∙ feature_shown tree
