use Rattle.oim_dims.proofs.OneUnit.{not_refused, one_unit, refused_others}
use Rattle.oim_dims.proofs.laws.texts_denote_one_unit.Goals as goal

pub returns : goal.returns
returns c = record { one = one_unit; accepted = not_refused; refused = refused_others }
