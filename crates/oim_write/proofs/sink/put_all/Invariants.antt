use Rattle.oim_write.proofs.Shared.{◌≡◌, ◌-◌, ◌≤◌, length, take, Appends}
use Rattle.oim_write.proofs.sink.put_all.Given as goal

-- the bytes so far are appended, and the sink has not failed since the call began
abbrev pub invariant-loop-taken : goal.invariant-loop-taken
invariant-loop-taken g l = record {
  appended : Appends (g.S.Sink.told l.initial.sink) (g.S.Sink.told l.sink) (take l.taken l.bytes);
  within : l.taken ≤ length l.bytes;
  failures : g.S.Sink.failures l.sink ≡ g.S.Sink.failures l.initial.sink;
}

abbrev pub decreases-loop-taken : goal.decreases-loop-taken
decreases-loop-taken g l = length l.bytes - l.taken
