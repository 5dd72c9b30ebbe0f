use Rattle.oim_report.proofs.Shared.{◌≡◌, view, members_view, declarations, features_of, said_level}
use Rattle.oim_report.proofs.ReadInTurn.{level_after}
use Rattle.oim_report.proofs.document.features.read_level.Given as goal

abbrev pub invariant-loop-key : goal.invariant-loop-key
invariant-loop-key l = level_after l.declared (declarations l.aliases (members_view l.key-iterator)) ≡ said_level (declarations l.aliases (features_of (view l.fn.tree)))
