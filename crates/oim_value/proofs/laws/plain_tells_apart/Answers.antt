use Rattle.oim_value.proofs.ShortLaws.{plain_tells_apart as law}
use Rattle.oim_value.proofs.laws.plain_tells_apart.Goals as goal

pub returns : goal.returns
returns c = law
