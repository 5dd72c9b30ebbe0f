use Rattle.std.proofs.Common.{◌≡◌, take}
use Rattle.std.specs.Io.KnownBytes.{Appends}
use Rattle.command_line.specs.Outputs.{replica_lines}
use Rattle.command_line.proofs.commands.replay.put_replicas.Given as goal

-- the sink has not failed, and the lines of the replicas so far were appended
abbrev pub invariant-loop-base : goal.invariant-loop-base
invariant-loop-base g l = record {
  failures : g.S.Sink.failures l.out ≡ g.S.Sink.failures l.initial.out;
  appended : Appends (g.S.Sink.told l.initial.out) (g.S.Sink.told l.out) (replica_lines (take l.base-index l.replicas));
}
