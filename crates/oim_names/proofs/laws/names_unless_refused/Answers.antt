use Rattle.oim_names.specs.QName.{is_name}
use Rattle.oim_names.proofs.Refusals.{names_unless_refused, names_one}
use Rattle.oim_names.proofs.laws.names_unless_refused.Goals as goal

pub returns : goal.returns
returns c = record { exactly = names_unless_refused is_name; one = names_one is_name }
