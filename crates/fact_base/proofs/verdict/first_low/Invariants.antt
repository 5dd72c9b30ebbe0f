use Rattle.fact_base.proofs.Shared.{◌≡◌, ◌+◌, drop, has_low, position_or_len}
use Rattle.fact_base.proofs.verdict.first_low.Given as goal

abbrev pub invariant-loop-index : goal.invariant-loop-index
invariant-loop-index l = l.index + position_or_len (has_low l.ends.low) (drop l.index l.values) ≡ position_or_len (has_low l.ends.low) l.values
