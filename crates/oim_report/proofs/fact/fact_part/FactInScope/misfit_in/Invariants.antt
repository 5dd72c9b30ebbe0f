use Rattle.oim_report.proofs.Shared.{◌≡◌, members_view, is_misfit, first_defined}
use Rattle.oim_report.proofs.fact.fact_part.FactInScope.misfit_in.Given as goal

abbrev pub invariant-loop-key : goal.invariant-loop-key
invariant-loop-key l =
    let first = first_defined (is_misfit l.self.sheet.now l.self.aliases.now) in
    first (members_view l.key-iterator) ≡ first (members_view l.dimensions.entries)
