use Rattle.oim_write.proofs.Ranks.{width_is_fewest_digits}
use Rattle.oim_write.proofs.laws.width_is_fewest_digits.Goals as goal

pub returns : goal.returns
returns c = width_is_fewest_digits
