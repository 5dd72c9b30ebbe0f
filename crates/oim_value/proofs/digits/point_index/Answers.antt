use Rattle.oim_value.proofs.Shared.{sym, arith, ap, position_or_len_is, is_point}
use Rattle.oim_value.proofs.digits.point_index.Goals as goal

pub returns-then-c-eq46 : goal.returns-then-c-eq46
returns-then-c-eq46 c = sym (position_or_len_is is_point _ _ 0 (omega arith) c.loop-i.invariant (λ _. ap is_point c.if-c-eq46.true))

pub returns : goal.returns
returns c = sym (position_or_len_is is_point _ _ 0 (omega arith) (λ k h. c.loop-i.invariant k (omega arith)) (λ h. absurd (omega arith)))
