use Rattle.oim_value.proofs.SeveralMeet.{each_two_meet_by_members as law}
use Rattle.oim_value.proofs.laws.each_two_meet_by_members.Goals as goal

pub returns : goal.returns
returns c = law
