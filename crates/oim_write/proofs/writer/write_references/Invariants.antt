use Rattle.oim_write.proofs.Shared.{◌≡◌, ◌++◌, ℕ, List, drop, false, text_parts, Passes}
use Rattle.oim_write.proofs.writer.write_references.Given as goal

-- the references so far are written, and the text of the remaining references completes the text of all references
abbrev pub invariant-loop-reference : goal.invariant-loop-reference
invariant-loop-reference g l = record {
  passed : (done : List ℕ) × Passes (g.S.Sink.told l.initial.out) (g.S.Sink.told l.out) l.initial.buffer l.buffer done
      × (done ++ text_parts l.later (drop l.reference-index l.references) ≡ text_parts false l.references);
  failures : g.S.Sink.failures l.out ≡ g.S.Sink.failures l.initial.out;
}
