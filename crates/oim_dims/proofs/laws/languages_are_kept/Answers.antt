use Rattle.oim_dims.proofs.Languages.{language_kept}
use Rattle.oim_dims.proofs.laws.languages_are_kept.Goals as goal

pub returns : goal.returns
returns c = language_kept
