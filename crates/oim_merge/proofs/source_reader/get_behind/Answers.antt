use Rattle.std.proofs.Common.{arith}
use borrow.Rule.Slice.PartMut.{take_put}
use Rattle.oim_merge.proofs.source_reader.get_behind.Goals as goal

pub returns-clause-front : goal.returns-clause-front
returns-clause-front g c = take_put _ _ c.args.bytes.now _ (omega (arith, c.requires.filled))
