use Rattle.oim_report.proofs.Shared.{◌≡◌, [], members_view, repeated, defined_members}
use Rattle.oim_report.proofs.ShownFaults.{repeated_in}
use Rattle.oim_report.proofs.fact.dimension_part.two_keys.Given as goal

abbrev pub invariant-loop-key : goal.invariant-loop-key
invariant-loop-key l =
    repeated_in l.aliases l.before (defined_members (members_view l.key-iterator)) ≡ repeated l.aliases [] (defined_members (members_view l.dimensions.entries))
