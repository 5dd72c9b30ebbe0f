use Rattle.oim_report.proofs.Shared.{◌≡◌, ◌++◌, view, members_view, identifiers_in, tree_identifiers, entries}
use Rattle.oim_report.proofs.document.identifiers.identifiers_of.Given as goal

abbrev pub invariant-loop-key : goal.invariant-loop-key
invariant-loop-key l = l.keys.items ++ identifiers_in (entries (members_view l.key-iterator)) ≡ tree_identifiers (view l.fn.tree)
