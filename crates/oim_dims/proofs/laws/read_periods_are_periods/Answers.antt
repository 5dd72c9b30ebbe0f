use Rattle.oim_dims.proofs.ReadPeriods.{read_period_is}
use Rattle.oim_dims.proofs.laws.read_periods_are_periods.Goals as goal

pub returns : goal.returns
returns c = read_period_is
