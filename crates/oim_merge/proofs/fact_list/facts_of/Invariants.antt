use Rattle.oim_merge.proofs.Shared.{◌≡◌, ◌++◌, map, rows_of, rows_left, shown, rows_facts, lent}
use Rattle.oim_merge.proofs.fact_list.facts_of.Given as goal

-- the facts of the rows so far are listed
abbrev pub invariant-loop-row : goal.invariant-loop-row
invariant-loop-row l = record {
  rows : map shown l.yielded ++ rows_left l.row-iterator ≡ rows_of l.base.body.facts;
  facts : map lent l.facts.items ≡ rows_facts (map shown l.yielded);
}
