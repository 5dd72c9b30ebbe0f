use Rattle.std.proofs.Common.{◌≡◌, ◌≤◌, length, vec_len, vec_capacity}
use Rattle.oim_report.proofs.MembersSay.{AreFound}
use Rattle.oim_report.proofs.fact_reader.FactReader.read_members.Given as goal

abbrev pub invariant-loop-key : goal.invariant-loop-key
invariant-loop-key l = record {
  same : l.self ≡ l.initial.self;
  found : AreFound l.initial.self.sheet l.initial.self.aliases l.defined l.found.items l.key-index;
  count : vec_len l.found ≡ l.key-index;
  room : length l.defined ≤ vec_capacity l.found;
}
