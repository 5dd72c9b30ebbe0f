use Rattle.oim_report.proofs.TextUtf8.{nests_within_limit, object_text_back}
use Rattle.oim_report.proofs.laws.limits_are.Goals as goal

pub returns-clause-nesting : goal.returns-clause-nesting
returns-clause-nesting c = nests_within_limit

pub returns-clause-nested : goal.returns-clause-nested
returns-clause-nested c = object_text_back
