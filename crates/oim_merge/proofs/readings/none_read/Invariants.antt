use Rattle.std.proofs.Common.{◌≡◌, None, replicate}
use Rattle.oim_merge.proofs.readings.none_read.Given as goal

abbrev pub invariant-loop-made : goal.invariant-loop-made
invariant-loop-made l = l.kept.items ≡ replicate l._made None
