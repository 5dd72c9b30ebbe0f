use Rattle.oim_merge.proofs.RowLists.{lines_are_one}
use Rattle.oim_merge.proofs.laws.lines_are_one.Goals as goal

pub returns : goal.returns
returns c = lines_are_one
