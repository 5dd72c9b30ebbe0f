use Rattle.oim_value.proofs.ShortLaws.{denotes_one as law}
use Rattle.oim_value.proofs.laws.denotes_one.Goals as goal

pub returns : goal.returns
returns c = law
