use Rattle.fact_base.proofs.Shared.{map, ◌≡◌, length, take, row_of}
use Rattle.fact_base.proofs.entries.same_rows.Given as goal

abbrev pub invariant-loop-index : goal.invariant-loop-index
invariant-loop-index l = (length l.one ≡ length l.other) × (take l.index (map row_of l.one) ≡ take l.index (map row_of l.other))
