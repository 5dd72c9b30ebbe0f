use Rattle.oim_report.proofs.FaultLaws.{refused_where_held}
use Rattle.oim_report.proofs.laws.refused_where_held.Goals as goal

pub returns : goal.returns
returns c = refused_where_held
