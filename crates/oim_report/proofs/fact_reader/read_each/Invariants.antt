use Rattle.oim_report.proofs.Shared.{◌≡◌, ◌+◌, ◌≤◌, [], length, vec_len, vec_capacity, members_view, values, fact_outcome}
use Rattle.oim_report.proofs.Facts.{facts_after}
use Rattle.oim_report.proofs.fact_reader.read_each.Given as goal

abbrev pub invariant-loop-identifier : goal.invariant-loop-identifier
invariant-loop-identifier l = record {
  said : facts_after (fact_outcome l.initial.reader.sheet l.initial.reader.aliases) l.number l.facts.items (values (members_view l._identifier-iterator))
      ≡ facts_after (fact_outcome l.initial.reader.sheet l.initial.reader.aliases) 1 [] (values (members_view l.objects.entries));
  count : l.number + length l._identifier-iterator ≤ length l.initial._identifier-iterator + 1;
  room : vec_len l.facts + length l._identifier-iterator ≤ vec_capacity l.facts;
  same : l.reader ≡ l.initial.reader;
}
