use Rattle.oim_write.proofs.PlainTrees.{trees_are_plain}
use Rattle.oim_write.proofs.laws.trees_are_plain.Goals as goal

pub returns : goal.returns
returns c = trees_are_plain
