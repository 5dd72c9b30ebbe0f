use Rattle.oim_report.proofs.PlainFact.{fact_plain}
use Rattle.oim_report.proofs.laws.fact_object_is_plain.Goals as goal

pub returns : goal.returns
returns c = fact_plain
