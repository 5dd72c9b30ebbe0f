use Rattle.oim_value.proofs.Intervals.{meets_by_common_part, meets_by_common_point}
use Rattle.oim_value.proofs.laws.meets_by_common_point.Goals as goal

pub returns : goal.returns
returns c = record { point = meets_by_common_point; part = meets_by_common_part }
