use Rattle.std.proofs.Common.{◌+◌, ◌≤◌, length}
use Rattle.oim_merge.proofs.LinePieces.{HasReadEvents}
use Rattle.oim_merge.proofs.events.read_events.Given as goal

-- each line so far spells an event, so there are at most as many events as bytes that were read
abbrev pub invariant-loop-rest : goal.invariant-loop-rest
invariant-loop-rest l = record {
  read : HasReadEvents l.bytes l.rest l.events;
  count : length l.events + length l.rest ≤ length l.bytes;
}

abbrev pub decreases-loop-rest : goal.decreases-loop-rest
decreases-loop-rest l = length l.rest
