use Rattle.oim_write.proofs.Shared.{◌≡◌, ◌+◌, ◌++◌, ℕ, List, drop, facts_with, numbered_text, Passes}
use Rattle.oim_write.proofs.writer.write_row.Given as goal

-- the facts so far are written, and the text of the remaining facts completes the text of the row
abbrev pub invariant-loop-i : goal.invariant-loop-i
invariant-loop-i g l = record {
  passed : (done : List ℕ) × Passes (g.S.Sink.told l.initial.out) (g.S.Sink.told l.out) l.initial.buffer l.buffer done
      × (done ++ numbered_text l.labels.table.now l.labels.digits (l.before + l.i) (facts_with l.row.dimensions.now (drop l.i l.row.values.now))
      ≡ numbered_text l.labels.table.now l.labels.digits l.before (facts_with l.row.dimensions.now l.row.values.now));
  failures : g.S.Sink.failures l.out ≡ g.S.Sink.failures l.initial.out;
}
