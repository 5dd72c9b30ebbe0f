use Rattle.oim_names.specs.QName.{is_entity}
use Rattle.oim_names.proofs.Refusals.{form_is_tested, prefix_is_tested, namespace_is_tested}
use Rattle.oim_names.proofs.laws.entity_refusals_are_tested.Goals as goal

pub returns : goal.returns
returns c = record { form = form_is_tested is_entity; prefix = prefix_is_tested is_entity; namespace = namespace_is_tested is_entity }
