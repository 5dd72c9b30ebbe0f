use Rattle.oim_value.proofs.Denoted.{short_numbers_denote as law}
use Rattle.oim_value.proofs.laws.short_numbers_denote.Goals as goal

pub returns : goal.returns
returns c = law
