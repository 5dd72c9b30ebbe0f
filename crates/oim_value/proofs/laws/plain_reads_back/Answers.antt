use Rattle.oim_value.proofs.ShortLaws.{plain_reads_back as law}
use Rattle.oim_value.proofs.laws.plain_reads_back.Goals as goal

pub returns : goal.returns
returns c = law
