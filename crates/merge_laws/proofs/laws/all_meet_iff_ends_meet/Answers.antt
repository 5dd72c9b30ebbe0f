use Rattle.oim_value.proofs.Ends.{all_meet_iff_ends_meet}
use Rattle.merge_laws.proofs.laws.all_meet_iff_ends_meet.Goals as goal

pub returns : goal.returns
returns c = all_meet_iff_ends_meet
