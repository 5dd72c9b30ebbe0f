use Rattle.oim_report.proofs.Shared.{◌≡◌, drop, option_copied, view, items_view, is_no_reference, taxonomy_of, first_item}
use Rattle.oim_report.proofs.document.document_part.reference_under.Given as goal

abbrev pub invariant-loop-reference : goal.invariant-loop-reference
invariant-loop-reference l =
    let first = first_item (is_no_reference (option_copied l.base)) in
    first (items_view (drop l.reference-index l.reference-items)) ≡ first (taxonomy_of (view l.fn.tree))
