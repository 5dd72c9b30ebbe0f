use Rattle.oim_report.proofs.PlainFact.{parts_back}
use Rattle.oim_report.proofs.laws.fact_object_has_parts.Goals as goal

pub returns : goal.returns
returns c = parts_back
