use Rattle.oim_merge.proofs.AllowedLevels.{allowed_is_declared}
use Rattle.oim_merge.proofs.laws.allowed_is_declared.Goals as goal

pub returns : goal.returns
returns c = allowed_is_declared
