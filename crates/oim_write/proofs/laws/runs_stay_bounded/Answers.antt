use Rattle.oim_write.proofs.BoundedRuns.{runs_stay_bounded}
use Rattle.oim_write.proofs.laws.runs_stay_bounded.Goals as goal

pub returns : goal.returns
returns c = runs_stay_bounded
