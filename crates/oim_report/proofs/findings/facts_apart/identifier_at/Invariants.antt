use Rattle.oim_report.proofs.Shared.{◌≡◌, [], get_or, view, members_view, identifiers_in, tree_identifiers, entries}
use Rattle.oim_report.proofs.findings.facts_apart.identifier_at.Given as goal

-- the identifier is that of the fact after `left` of the remaining ones
abbrev pub invariant-loop-identifier : goal.invariant-loop-identifier
invariant-loop-identifier l =
    get_or (identifiers_in (entries (members_view l.identifier-iterator))) l.left [] ≡ get_or (tree_identifiers (view l.fn.tree)) l.index []
