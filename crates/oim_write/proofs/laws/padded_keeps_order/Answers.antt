use Rattle.oim_write.proofs.Ranks.{padded_keeps_order}
use Rattle.oim_write.proofs.laws.padded_keeps_order.Goals as goal

pub returns : goal.returns
returns c = padded_keeps_order
