use Rattle.oim_names.specs.QName.{is_entity, is_name}
use Rattle.oim_report.proofs.Naming.{named_exactly}
use Rattle.oim_report.proofs.laws.names_are_expanded.Goals as goal

pub returns-clause-names : goal.returns-clause-names
returns-clause-names c = named_exactly is_name

pub returns-clause-entities : goal.returns-clause-entities
returns-clause-entities c = named_exactly is_entity
