use Rattle.std.proofs.Common.{◌≡◌}
use Rattle.oim_merge.proofs.replayed.bases_of.Given as goal

abbrev pub invariant-loop-builder : goal.invariant-loop-builder
invariant-loop-builder l = l.bases.items ≡ l.yielded
