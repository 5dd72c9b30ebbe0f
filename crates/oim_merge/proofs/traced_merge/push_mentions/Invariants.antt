use Rattle.oim_merge.proofs.Shared.{◌≡◌, take, flat_map, Passes, indexed_text}
use Rattle.oim_merge.proofs.traced_merge.push_mentions.Given as goal

-- the texts of the mentions so far were pushed
abbrev pub invariant-loop-mention : goal.invariant-loop-mention
invariant-loop-mention g l = record {
  passed : Passes (g.S.Sink.told l.initial.out) (g.S.Sink.told l.out) l.initial.buffer l.buffer
      (flat_map (indexed_text (g.F.SourceFormat.source_text l.format) l.count) (take l.mention-index l.mentions));
  failures : g.S.Sink.failures l.out ≡ g.S.Sink.failures l.initial.out;
}
