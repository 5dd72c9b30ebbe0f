use Rattle.oim_write.proofs.WrittenOrder.{facts_are_written_in_order}
use Rattle.oim_write.proofs.laws.facts_are_written_in_order.Goals as goal

pub returns : goal.returns
returns c = facts_are_written_in_order
