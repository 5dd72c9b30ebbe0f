use Rattle.fact_base.proofs.Shared.{◌≡◌, ◌+◌, drop, has_high, position_or_len}
use Rattle.fact_base.proofs.verdict.first_high.Given as goal

abbrev pub invariant-loop-index : goal.invariant-loop-index
invariant-loop-index l = l.index + position_or_len (has_high l.ends.high) (drop l.index l.values) ≡ position_or_len (has_high l.ends.high) l.values
