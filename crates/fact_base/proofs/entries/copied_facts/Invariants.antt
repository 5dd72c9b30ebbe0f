use Rattle.fact_base.proofs.Shared.{◌≡◌, ◌++◌, drop, facts_of_entries}
use Rattle.fact_base.proofs.entries.copied_facts.Given as goal

-- appending the facts of the remaining entries gives all facts
abbrev pub invariant-loop-index : goal.invariant-loop-index
invariant-loop-index l = l.facts.items ++ facts_of_entries (drop l.index l.entries) ≡ facts_of_entries l.entries
