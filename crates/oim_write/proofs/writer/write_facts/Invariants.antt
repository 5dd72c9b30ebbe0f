use Rattle.oim_write.proofs.Shared.{◌≡◌, ◌+◌, ◌++◌, ℕ, List, length, string_bytes, rows_left, facts_text, numbered_text, SharePrefix, Passes}
use Rattle.oim_write.proofs.NumberedFacts.{rows_facts}
use Rattle.oim_write.proofs.writer.write_facts.Given as goal

-- the rows so far are written, and the text of the remaining rows completes the text of all facts
abbrev pub invariant-loop-row : goal.invariant-loop-row
invariant-loop-row g l = record {
  passed : (done : List ℕ) × Passes (g.S.Sink.told l.initial.out) (g.S.Sink.told l.out) l.initial.buffer l.buffer done
      × (done ++ numbered_text l.table l.digits l.before (rows_facts (rows_left l.rows)) ≡ facts_text l.table l.base.body.facts);
  count : l.before + length (rows_facts (rows_left l.rows)) ≡ length l.base.body.facts;
  failures : g.S.Sink.failures l.out ≡ g.S.Sink.failures l.initial.out;
  known : SharePrefix l.table (string_bytes l.concepts.prefix) l.concepts.known (rows_left l.rows);
}

abbrev pub decreases-loop-row : goal.decreases-loop-row
decreases-loop-row g l = length (rows_left l.rows)
