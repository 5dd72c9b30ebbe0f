use Rattle.oim_merge.proofs.Shared.{◌≡◌, ◌++◌, length, map, rows_of, rows_left, shown, rows_facts, PassesRows}
use Rattle.oim_merge.proofs.verdict_rows.push_rows.Given as goal

-- the rows so far were pushed, and their facts are counted
abbrev pub invariant-loop-row : goal.invariant-loop-row
invariant-loop-row g l = record {
  rows : map shown l.yielded ++ rows_left l.row-iterator ≡ rows_of l.base.body.facts;
  number : l.number ≡ length l.yielded;
  before : l.identifiers.before ≡ length (rows_facts (map shown l.yielded));
  count : l.identifiers.count ≡ length l.base.body.facts;
  passed : PassesRows (g.F.VerdictFormat.row_text l.format) l.base.body.facts (map shown l.yielded) (g.S.Sink.told l.initial.out) (g.S.Sink.told l.out) l.initial.buffer l.buffer;
  failures : g.S.Sink.failures l.out ≡ g.S.Sink.failures l.initial.out;
}
