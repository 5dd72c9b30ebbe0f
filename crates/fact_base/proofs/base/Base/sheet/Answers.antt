use Rattle.fact_base.proofs.Shared.{Fits, subst, Contents}
use Rattle.fact_base.proofs.base.Base.sheet.Goals as goal
use Rattle.fact_base.proofs.Stored.{stored_fits}

pub returns-clause-fits : goal.returns-clause-fits
returns-clause-fits c = subst (λ (b : Contents). Fits b.sheet b.body) c.self.view_is (stored_fits c.self.inside.sheet.now c.self.inside.entries c.self.inside.references c.self.invariant)
