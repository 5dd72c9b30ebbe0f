use Rattle.oim_names.specs.QName.{is_entity}
use Rattle.oim_names.proofs.Refusals.{names_unless_refused, names_one}
use Rattle.oim_names.proofs.laws.entities_unless_refused.Goals as goal

pub returns : goal.returns
returns c = record { exactly = names_unless_refused is_entity; one = names_one is_entity }
