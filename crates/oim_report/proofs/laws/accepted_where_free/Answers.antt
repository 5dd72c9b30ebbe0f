use Rattle.oim_report.proofs.FaultLaws.{accepted_where_free}
use Rattle.oim_report.proofs.laws.accepted_where_free.Goals as goal

pub returns : goal.returns
returns c = accepted_where_free
