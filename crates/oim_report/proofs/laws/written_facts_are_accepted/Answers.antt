use Rattle.oim_report.proofs.ReadFact.{names_accepted}
use Rattle.oim_report.proofs.laws.written_facts_are_accepted.Goals as goal

pub returns-clause-names : goal.returns-clause-names
returns-clause-names c = names_accepted
