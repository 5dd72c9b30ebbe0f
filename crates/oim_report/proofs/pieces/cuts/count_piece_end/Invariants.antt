use Rattle.std.proofs.Common.{◌-◌, ◌≤◌, length}
use Rattle.oim_report.proofs.pieces.cuts.count_piece_end.Given as goal

abbrev pub invariant-loop-at : goal.invariant-loop-at
invariant-loop-at l = l.at ≤ l.in_blocks

abbrev pub decreases-loop-at : goal.decreases-loop-at
decreases-loop-at l = l.in_blocks - l.at

abbrev pub decreases-loop-at-2 : goal.decreases-loop-at-2
decreases-loop-at-2 l = length l.bytes - l.at
