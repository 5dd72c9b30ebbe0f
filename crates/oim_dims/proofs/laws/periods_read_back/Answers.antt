use Rattle.oim_dims.proofs.Periods.{period_back}
use Rattle.oim_dims.proofs.laws.periods_read_back.Goals as goal

pub returns : goal.returns
returns c = period_back
