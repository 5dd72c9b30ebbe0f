use Rattle.oim_report.proofs.Shared.{rules, ◌≡◌, ap, ◌∙◌, option_map, codes, option_copied, IfOk-weaker, option_flatten, view, info, taxonomy_of}
use Rattle.oim_report.specs.Holds.{document_base_url, document_holds, is_no_reference}
use Rattle.oim_report.specs.Shown.{document_shown, first_item, value}
use Rattle.oim_report.proofs.DocumentHolds.{flat_base}
use Rattle.oim_report.proofs.ShownFaults.{item_shown}
use Rattle.oim_report.proofs.document.document_part.refused_reference.Goals as goal

pub returns : goal.returns
unfolding document_holds document_shown
returns c =
    let tree = view c.args.tree.now in
    let borrowed : option_copied c.as_ref.result ≡ c.flatten-base.result = search rules in
    let based = borrowed ∙ c.flatten-base.ensures ∙ ap option_flatten c.in_ok-said.ensures ∙ flat_base (info (codes "baseURL") tree) in
    IfOk-weaker c.reference_under.result _ _
    (λ part h.
    h
    ∙ ap (λ b. option_map value (first_item (is_no_reference b) (taxonomy_of tree))) based
    ∙ item_shown (is_no_reference (document_base_url tree)) (taxonomy_of tree))
    c.reference_under.ensures
