use Rattle.fact_base.proofs.Shared.{rows_of, sym, ap, ◌∙◌, Contents}
use Rattle.fact_base.proofs.base.Base.rows.Goals as goal
use Rattle.fact_base.proofs.Walks.{all_summarised, rows_stored}

pub invariant_of-result : goal.invariant_of-result
invariant_of-result c = record { summed = all_summarised c.self.inside.sheet.now c.self.inside.entries c.self.inside.references c.self.invariant }

pub returns : goal.returns
returns c = sym (rows_stored c.self.inside.sheet.now c.self.inside.entries c.self.inside.references c.self.invariant) ∙ ap (λ (b : Contents). rows_of b.body.facts) c.self.view_is
