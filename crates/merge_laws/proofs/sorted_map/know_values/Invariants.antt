use Rattle.merge_laws.proofs.Shared.{take, AllByRecursion}
use Rattle.merge_laws.proofs.sorted_map.know_values.Given as goal

abbrev pub invariant-loop-entry : goal.invariant-loop-entry
invariant-loop-entry g l = AllByRecursion (λ e. g.V.Merge.is_known e.1) (take l.entry-index l.entries)
