use Rattle.oim_merge.proofs.Shared.{◌≤◌, ◌+◌, length, filled_pieces}
use Rattle.oim_merge.proofs.Reports.{HasAdded}
use Rattle.oim_merge.proofs.bundle.merge_lines.Given as goal

-- the added lines, followed by the remaining ones that are not empty, are all lines that are not empty; there are at most as many added
-- lines as bytes that were read
abbrev pub invariant-loop-rest : goal.invariant-loop-rest
invariant-loop-rest l = record {
  added : HasAdded l.sheet l.consolidation (filled_pieces l.rest) (filled_pieces l.lines);
  count : l.consolidation.reports + length l.rest ≤ length l.lines;
}

abbrev pub decreases-loop-rest : goal.decreases-loop-rest
decreases-loop-rest l = length l.rest
