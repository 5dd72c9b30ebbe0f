use Rattle.oim_report.proofs.OneDocument.{says_one_document}
use Rattle.oim_report.proofs.laws.says_one_document.Goals as goal

pub returns : goal.returns
returns c = says_one_document
