use Rattle.oim_report.proofs.Shared.{ap, ◌∙◌, is_none, option_copied, view, TaxonomyUrl, said_reference}
use Rattle.oim_report.proofs.DocumentHolds.{one_reference, from_some, none_is}
use Rattle.oim_report.proofs.document.document_part.is_refused.Goals as goal

pub returns : goal.returns
returns c =
    let base = option_copied c.args.base in
    let d = view c.args.reference.now in
    from_some c.in_ok-kept.kept c.is_none.result c.is_none.ensures
    ∙ ap is_none c.in_ok-kept.ensures.0
    ∙ none_is c.keep_item.result (said_reference base d) (λ t. t) TaxonomyUrl c.in_ok-kept.ensures.1 c.keep_item.ensures.ok c.keep_item.ensures.errors
    ∙ one_reference base d
