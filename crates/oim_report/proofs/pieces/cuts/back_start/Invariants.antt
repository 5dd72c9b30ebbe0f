use Rattle.oim_report.proofs.Shared.{length, drop, ◌≤◌, AreSpaces}
use Rattle.oim_report.proofs.pieces.cuts.back_start.Given as goal

abbrev pub invariant-loop-at : goal.invariant-loop-at
invariant-loop-at l = (l.at ≤ length l.bytes) × AreSpaces (drop l.at l.bytes)

abbrev pub decreases-loop-at : goal.decreases-loop-at
decreases-loop-at l = l.at
