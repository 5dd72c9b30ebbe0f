use Rattle.oim_value.proofs.Intervals.{interval_has_number, interval_has_points, within_is_near}
use Rattle.oim_value.proofs.laws.interval_has_what_is_near.Goals as goal

pub returns : goal.returns
returns c = record { near = within_is_near; number = interval_has_number; points = interval_has_points }
