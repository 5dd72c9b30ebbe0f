use Rattle.oim_value.proofs.Meeting.{meets_is_reflexive, meets_is_symmetric}
use Rattle.oim_value.proofs.laws.values_meet_both_ways.Goals as goal

pub returns : goal.returns
returns c = record { reflexive = meets_is_reflexive; symmetric = meets_is_symmetric }
