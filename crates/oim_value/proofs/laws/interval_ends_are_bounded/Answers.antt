use Rattle.oim_value.proofs.Bounds.{interval_ends_are_bounded}
use Rattle.oim_value.proofs.laws.interval_ends_are_bounded.Goals as goal

pub returns : goal.returns
returns c = interval_ends_are_bounded
