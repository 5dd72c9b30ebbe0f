use Rattle.fact_base.proofs.Shared.{subst, gathered, Contents, Fits}
use Rattle.fact_base.proofs.Bodies.{union_fits}
use Rattle.fact_base.proofs.base_builder.BaseBuilder.sheet.Goals as goal

pub returns-clause-fits : goal.returns-clause-fits
returns-clause-fits c =
    let inside = c.self.inside in
    subst (λ (b : Contents). Fits b.sheet b.body) c.self.view_is
    (union_fits inside.base.sheet inside.base.body (gathered inside.facts.items inside.references.items) c.sheet.ensures.fits c.self.invariant)
