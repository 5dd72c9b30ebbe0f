use Rattle.std.proofs.Common.{◌≡◌, take}
use Rattle.oim_report.proofs.pieces.texts.Texts.to_vec.Given as goal

abbrev pub invariant-loop-index : goal.invariant-loop-index
invariant-loop-index l = l.texts.items ≡ take l.index l.fn.self
