use Rattle.oim_report.proofs.Shared.{◌≡◌, codes, view, members_view, members, object_at, is_unlisted, first_defined}
use Rattle.oim_report.proofs.fact.fact_part.FactInScope.unlisted_dimension.Given as goal

abbrev pub invariant-loop-key : goal.invariant-loop-key
invariant-loop-key l =
    let first = first_defined (λ k d. is_unlisted l.self.sheet.now l.self.aliases.now k) in
    first (members_view l.key-iterator) ≡ first (members (object_at (codes "dimensions") (view l.self.object.now)))
