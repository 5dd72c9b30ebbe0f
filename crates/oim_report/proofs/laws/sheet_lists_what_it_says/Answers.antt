use Rattle.oim_report.proofs.ListedKinds.{concepts_are_listed, dimensions_are_listed}
use Rattle.oim_report.proofs.laws.sheet_lists_what_it_says.Goals as goal

pub returns-clause-concepts : goal.returns-clause-concepts
returns-clause-concepts c = concepts_are_listed

pub returns-clause-dimensions : goal.returns-clause-dimensions
returns-clause-dimensions c = dimensions_are_listed
