use Rattle.oim_write.proofs.SpelledFacts.{facts_are_spelled}
use Rattle.oim_write.proofs.laws.facts_are_spelled.Goals as goal

pub returns : goal.returns
returns c = facts_are_spelled
