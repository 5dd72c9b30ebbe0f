use Rattle.oim_value.proofs.Ends.{ends_exist, ends_are_one, within_ends_is_within_each, ends_are_common_interval as law}
use Rattle.oim_value.proofs.laws.ends_are_common_interval.Goals as goal

pub returns : goal.returns
returns c = record { exist = ends_exist; one = ends_are_one; within = within_ends_is_within_each; common = law }
