use Rattle.fact_base.proofs.Shared.{take, All}
use Rattle.fact_base.proofs.EntryFacts.{HasRow}
use Rattle.fact_base.proofs.entries.has_all_rows.Given as goal

abbrev pub invariant-loop-index : goal.invariant-loop-index
invariant-loop-index l = All (HasRow l.entries) (take l.index l.others)
