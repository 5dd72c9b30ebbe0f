use Rattle.oim_value.proofs.Intervals.{common_is_both}
use Rattle.oim_value.proofs.laws.common_has_both.Goals as goal

pub returns : goal.returns
returns c = common_is_both
