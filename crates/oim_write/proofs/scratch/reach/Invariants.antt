use Rattle.std.proofs.Common.{◌+◌, ◌-◌, vec_len}
use Rattle.oim_write.proofs.scratch.reach.Given as goal

abbrev pub decreases-loop-texts : goal.decreases-loop-texts
decreases-loop-texts l = l.class + 1 - vec_len l.texts
