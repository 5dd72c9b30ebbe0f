use Rattle.oim_write.proofs.Shared.{◌≡◌, ◌≤◌, length, take, without_trailing}
use Rattle.oim_write.proofs.fixed_text.significant.Given as goal

abbrev pub invariant-loop-end : goal.invariant-loop-end
invariant-loop-end l = record {
  within : l.end ≤ length l.digits;
  same : without_trailing (take l.end l.digits) ≡ without_trailing l.digits;
}

abbrev pub decreases-loop-end : goal.decreases-loop-end
decreases-loop-end l = l.end
