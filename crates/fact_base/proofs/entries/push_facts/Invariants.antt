use Rattle.fact_base.proofs.Shared.{◌≡◌, ◌++◌, drop, facts_with}
use Rattle.fact_base.proofs.entries.push_facts.Given as goal

-- appending the facts of the remaining values gives the facts at the start, followed by the facts of all values
abbrev pub invariant-loop-value : goal.invariant-loop-value
invariant-loop-value l =
    l.facts.items ++ facts_with l.dimensions (drop l.value-index l.values)
    ≡ l.initial.facts.items ++ facts_with l.dimensions l.values
