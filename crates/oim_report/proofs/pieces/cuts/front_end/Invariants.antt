use Rattle.oim_report.proofs.Shared.{length, take, ◌≤◌, ◌-◌, AreSpaces}
use Rattle.oim_report.proofs.pieces.cuts.front_end.Given as goal

abbrev pub invariant-loop-at : goal.invariant-loop-at
invariant-loop-at l = (l.at ≤ length l.bytes) × AreSpaces (take l.at l.bytes)

abbrev pub decreases-loop-at : goal.decreases-loop-at
decreases-loop-at l = length l.bytes - l.at
