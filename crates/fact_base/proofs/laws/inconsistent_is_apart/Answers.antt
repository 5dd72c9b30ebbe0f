use Rattle.fact_base.proofs.Verdicts.{inconsistent_is_apart}
use Rattle.fact_base.proofs.laws.inconsistent_is_apart.Goals as goal

pub returns : goal.returns
returns c = inconsistent_is_apart
