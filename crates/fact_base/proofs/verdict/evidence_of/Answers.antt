use Rattle.fact_base.proofs.verdict.evidence_of.Goals as goal
use Rattle.std.proofs.Common.{sym, ◌∙◌}
use Rattle.fact_base.proofs.Summaries.{are_several, shared_is_common}

pub returns-in-Some : goal.returns-in-Some
returns-in-Some c = shared_is_common c.args.values.now c.args.summary.now c.requires (are_several c.args.values.now c.requires.some c.if-values-eq1.false) c.in-Some.common (sym c.shared_by.ensures ∙ c.in-Some.is)
