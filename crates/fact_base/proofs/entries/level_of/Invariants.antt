use Rattle.fact_base.proofs.Shared.{◌≡◌, drop, facts_of_entries, level_of}
use Rattle.fact_base.proofs.Levels.{highest}
use Rattle.fact_base.proofs.entries.level_of.Given as goal

abbrev pub invariant-loop-index : goal.invariant-loop-index
invariant-loop-index l = highest l.level (drop l.index l.entries) ≡ level_of (facts_of_entries l.entries)
