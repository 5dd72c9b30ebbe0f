use Rattle.oim_value.proofs.SeveralMeet.{different_meet_as_numbers, different_meet_between_ends as law, crossed_ends_are_apart}
use Rattle.oim_value.proofs.laws.different_meet_between_ends.Goals as goal

pub returns : goal.returns
returns c = record { numbers = different_meet_as_numbers; between = law; apart = crossed_ends_are_apart }
