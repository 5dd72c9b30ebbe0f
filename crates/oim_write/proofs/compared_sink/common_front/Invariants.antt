use Rattle.std.proofs.Common.{length, ◌-◌, ◌≡◌, ◌≤◌, take}
use Rattle.oim_write.proofs.compared_sink.common_front.Given as goal

abbrev pub invariant-loop-same : goal.invariant-loop-same
invariant-loop-same l = record {
  within_one : l.same ≤ length l.one;
  within_other : l.same ≤ length l.other;
  same : take l.same l.one ≡ take l.same l.other;
}

abbrev pub decreases-loop-same : goal.decreases-loop-same
decreases-loop-same l = length l.one - l.same
