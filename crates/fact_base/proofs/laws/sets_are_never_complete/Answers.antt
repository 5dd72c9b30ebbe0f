use Rattle.fact_base.proofs.Levels.{sets_are_never_complete}
use Rattle.fact_base.proofs.laws.sets_are_never_complete.Goals as goal

pub returns : goal.returns
returns c = sets_are_never_complete
