use Rattle.fact_base.proofs.Shared.{sym, ap, ◌∙◌, is_some}
use Rattle.fact_base.proofs.Summaries.{verdict_by_shared}
use Rattle.fact_base.proofs.verdict.verdict_of.Goals as goal

pub returns-then-is_some : goal.returns-then-is_some
returns-then-is_some c = verdict_by_shared c.args.values.now c.args.summary.now _ c.requires c.if-values-eq1.false (ap is_some (sym c.shared_by.ensures) ∙ sym c.if-is_some.ensures)

pub returns-else-is_some : goal.returns-else-is_some
returns-else-is_some c = verdict_by_shared c.args.values.now c.args.summary.now _ c.requires c.if-values-eq1.false (ap is_some (sym c.shared_by.ensures) ∙ sym c.if-is_some.ensures)
