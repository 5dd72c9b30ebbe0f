use Rattle.oim_names.proofs.Spelling.{spelled_names, spelled_entities}
use Rattle.oim_names.proofs.laws.spelled_names_expand_back.Goals as goal

pub returns : goal.returns
returns c = record { names = spelled_names; entities = spelled_entities }
