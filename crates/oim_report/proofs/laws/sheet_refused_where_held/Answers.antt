use Rattle.oim_report.proofs.SheetEntries.{sheet_refused_where_held}
use Rattle.oim_report.proofs.laws.sheet_refused_where_held.Goals as goal

pub returns : goal.returns
returns c = sheet_refused_where_held
