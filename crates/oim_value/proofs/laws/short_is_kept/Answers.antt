use Rattle.oim_value.proofs.ShortLaws.{short_is_kept as law}
use Rattle.oim_value.proofs.laws.short_is_kept.Goals as goal

pub returns : goal.returns
returns c = law
