use Rattle.fact_base.proofs.Shared.{◌≡◌, length, ◌+◌, ◌*◌, ◌≤◌, drop, facts_of_entries}
use Rattle.fact_base.proofs.entries.count_of.Given as goal

abbrev pub invariant-loop-index : goal.invariant-loop-index
invariant-loop-index l = (l.count + length (facts_of_entries (drop l.index l.entries)) ≡ length (facts_of_entries l.entries)) × (l.count ≤ l.index * 18446744073709551616)
