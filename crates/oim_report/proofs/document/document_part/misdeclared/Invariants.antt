use Rattle.oim_report.proofs.Shared.{◌≡◌, find, view, members_view, features_of, entries, is_misdeclared}
use Rattle.oim_report.proofs.document.document_part.misdeclared.Given as goal

abbrev pub invariant-loop-key : goal.invariant-loop-key
invariant-loop-key l =
    let first = find (is_misdeclared l.aliases) in
    first (entries (members_view l.key-iterator)) ≡ first (entries (features_of (view l.fn.tree)))
