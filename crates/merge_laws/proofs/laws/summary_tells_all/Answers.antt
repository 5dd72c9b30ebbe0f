use Rattle.merge_laws.proofs.Ends.{summary_tells_all}
use Rattle.merge_laws.proofs.laws.summary_tells_all.Goals as goal

pub returns : goal.returns
returns c = summary_tells_all
