use Rattle.oim_merge.proofs.Shared.{◌≡◌, ◌-◌, ◌≤◌, take, vec_len, Consumes}
use Rattle.oim_merge.proofs.source_reader.read_all.Given as goal

-- the filled bytes are the bytes that the source gave, and the source has not failed since the call began
abbrev pub invariant-loop-filled : goal.invariant-loop-filled
invariant-loop-filled g l = record {
  given : Consumes (g.S.Source.told l.initial.source) (g.S.Source.told l.source) (take l.filled l.bytes.items);
  filled : l.filled ≤ vec_len l.bytes;
  within : vec_len l.bytes ≤ l.too_many;
  failures : g.S.Source.failures l.source ≡ g.S.Source.failures l.initial.source;
}

abbrev pub decreases-loop-filled : goal.decreases-loop-filled
decreases-loop-filled g l = l.too_many - l.filled
