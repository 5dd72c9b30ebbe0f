use Rattle.oim_report.proofs.Shared.{◌≡◌, [], option_map, members_view, members}
use Rattle.oim_report.proofs.ReadInTurn.{bound_after}
use Rattle.oim_report.proofs.document.namespaces.read_namespaces.Given as goal

abbrev pub invariant-loop-prefix : goal.invariant-loop-prefix
invariant-loop-prefix l = bound_after l.aliases (members_view l.prefix-iterator) ≡ bound_after [] (members (option_map (λ m. members_view m.now.entries) l.fn.namespaces))
