use Rattle.fact_base.proofs.Shared.{◌∙◌, sym, facts_of_entries}
use Rattle.fact_base.proofs.base.Base.level.Goals as goal
use Rattle.fact_base.proofs.Levels.{sets_are_never_complete}
use Rattle.fact_base.proofs.Stored.{stored_fits}
use Rattle.fact_base.proofs.Walks.{all_summarised}

pub level_of-requires-clause-summed : goal.level_of-requires-clause-summed
level_of-requires-clause-summed c = all_summarised c.self.inside.sheet.now c.self.inside.entries c.self.inside.references c.self.invariant

pub returns-clause-never_complete : goal.returns-clause-never_complete
returns-clause-never_complete c =
    let fits = stored_fits c.self.inside.sheet.now c.self.inside.entries c.self.inside.references c.self.invariant in
    λ is. sets_are_never_complete (facts_of_entries c.self.inside.entries) fits.rises.facts (sym c.level_of.ensures ∙ is)
