use Rattle.oim_report.proofs.Shared.{◌≡◌, codes, find, view, members_view, refuses, members, object_at, names_in}
use Rattle.oim_report.proofs.fact.fact_part.FactInScope.refused_dimension.Given as goal

abbrev pub invariant-loop-key : goal.invariant-loop-key
invariant-loop-key l =
    let first = find (refuses l.reason l.self.aliases.now) in
    first (names_in l.self.sheet.now l.self.aliases.now (members_view l.key-iterator)) ≡ first (names_in l.self.sheet.now l.self.aliases.now (members (object_at (codes "dimensions") (view l.self.object.now))))
