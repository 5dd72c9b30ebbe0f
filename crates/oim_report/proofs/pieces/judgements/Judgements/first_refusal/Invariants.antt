use Rattle.oim_report.proofs.Shared.{◌≡◌, ◌+◌, ◌≤◌, List, Err, length, map, Binding, Members, values, all_or_first, fact_outcome, facts_said, Sheet, Refusal, AreJudged}
use Rattle.oim_report.proofs.pieces.judgements.Judgements.first_refusal.Given as goal

-- the facts so far are accepted, so the first refusal of the rest is that of all
abbrev pub invariant-loop-identifier : goal.invariant-loop-identifier
invariant-loop-identifier l = record {
  later : (sheet : Sheet) (bs : List Binding) (ms : Members) → AreJudged sheet bs ms l.self.by_identifier.entries
      → (rest : Members) × AreJudged sheet bs rest l._identifier-iterator × ((r : Refusal) → all_or_first l.number (map (fact_outcome sheet bs) (values rest)) ≡ Err r → facts_said sheet bs ms ≡ Err r);
  count : l.number + length l._identifier-iterator ≤ length l.initial._identifier-iterator + 1;
}
