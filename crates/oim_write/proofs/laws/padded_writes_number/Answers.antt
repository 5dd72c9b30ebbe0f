use Rattle.oim_write.proofs.Ranks.{padded_writes_number}
use Rattle.oim_write.proofs.laws.padded_writes_number.Goals as goal

pub returns : goal.returns
returns c = padded_writes_number
