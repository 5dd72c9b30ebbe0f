use Rattle.oim_dims.proofs.FirstAndLast.{limits_are}
use Rattle.oim_dims.proofs.laws.limits_are.Goals as goal

pub returns : goal.returns
returns c = limits_are
