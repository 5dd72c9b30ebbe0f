use Rattle.oim_merge.proofs.Shared.{◌≡◌, ◌++◌, drop, map, facts_with, lent}
use Rattle.oim_merge.proofs.fact_list.add_row.Given as goal

abbrev pub invariant-loop-value : goal.invariant-loop-value
invariant-loop-value l =
    map lent l.facts.items ++ facts_with l.row.dimensions.now (drop l.value-index l.row.values.now)
    ≡ map lent l.initial.facts.items ++ facts_with l.row.dimensions.now l.row.values.now
