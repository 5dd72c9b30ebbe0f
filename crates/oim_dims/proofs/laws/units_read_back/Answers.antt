use Rattle.oim_dims.proofs.UnitText.{bindings_spell, unit_back}
use Rattle.oim_dims.proofs.laws.units_read_back.Goals as goal

pub returns : goal.returns
returns c = record { back = unit_back; spelled = bindings_spell }
