use Rattle.oim_report.proofs.Documents.{accepted_facts_fit, accepted_references_are_kept}
use Rattle.oim_report.proofs.laws.outcomes_are_said.Goals as goal

pub returns-clause-facts : goal.returns-clause-facts
returns-clause-facts c = accepted_facts_fit

pub returns-clause-references : goal.returns-clause-references
returns-clause-references c = accepted_references_are_kept
