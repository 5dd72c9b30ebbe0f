use Rattle.fact_base.proofs.Verdicts.{numeric_inconsistent_is_apart}
use Rattle.fact_base.proofs.laws.numeric_inconsistent_is_apart.Goals as goal

pub returns : goal.returns
returns c = numeric_inconsistent_is_apart
