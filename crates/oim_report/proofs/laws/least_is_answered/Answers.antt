use Rattle.oim_report.proofs.LeastOf.{least_is_answered}
use Rattle.oim_report.proofs.laws.least_is_answered.Goals as goal

pub returns : goal.returns
returns c = least_is_answered
