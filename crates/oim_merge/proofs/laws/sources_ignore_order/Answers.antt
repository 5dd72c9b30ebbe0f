use Rattle.oim_merge.proofs.SourceLaws.{sources_ignore_order}
use Rattle.oim_merge.proofs.laws.sources_ignore_order.Goals as goal

pub returns : goal.returns
returns c = sources_ignore_order
