use Rattle.oim_report.proofs.Shared.{◌≡◌, [], drop, option_copied, view, items_view, taxonomy_of}
use Rattle.oim_report.proofs.ReadInTurn.{kept_after}
use Rattle.oim_report.proofs.document.references.read_taxonomy.Given as goal

abbrev pub invariant-loop-item : goal.invariant-loop-item
invariant-loop-item l = kept_after (option_copied l.base) l.references.items (items_view (drop l.item-index l.item-items)) ≡ kept_after (option_copied l.base) [] (taxonomy_of (view l.fn.tree))
