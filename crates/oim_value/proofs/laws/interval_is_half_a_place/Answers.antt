use Rattle.oim_value.proofs.Intervals.{half_after_point, half_before_point}
use Rattle.oim_value.proofs.laws.interval_is_half_a_place.Goals as goal

pub returns : goal.returns
returns c = record { after_point = half_after_point; before_point = half_before_point }
