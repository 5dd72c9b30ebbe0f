use Rattle.oim_merge.proofs.Shared.{◌≡◌, KeepReadings, sent_texts}
use Rattle.oim_merge.proofs.Replays.{HasRun}
use Rattle.oim_merge.proofs.replayed.replay.Given as goal

abbrev pub invariant-loop-event : goal.invariant-loop-event
invariant-loop-event l = record {
  line : l.line ≡ l.event-index;
  run : HasRun l.sheet l.n l.reports l.event-items l.event-index l.replicas.bases.items (sent_texts l.replicas.messages) l.replicas.refused;
  kept : KeepReadings l.sheet l.reports l.replicas;
}
