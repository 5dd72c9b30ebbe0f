use Rattle.oim_report.proofs.Shared.{ap, ◌∙◌, codes, is_none, view, info}
use Rattle.oim_report.specs.Holds.{document_holds}
use Rattle.oim_report.specs.Shown.{document_shown, value_or_nothing, when}
use Rattle.oim_report.proofs.DocumentHolds.{base_same, from_some}
use Rattle.oim_report.proofs.document.document_part.refused_base.Goals as goal

pub returns : goal.returns
unfolding document_holds document_shown
returns c =
    let refused = from_some c.in_ok-base.base c.is_none.result c.is_none.ensures ∙ ap is_none c.in_ok-base.ensures ∙ base_same (info (codes "baseURL") (view c.args.tree.now)) in
    c.value_if.ensures ∙ (λ i. when (refused i) (value_or_nothing (c.within.ensures i)))
