use Rattle.oim_value.proofs.Intervals.{common_is_associative, common_is_commutative, common_is_idempotent}
use Rattle.oim_value.proofs.laws.common_ignores_order.Goals as goal

pub returns : goal.returns
returns c = record { associative = common_is_associative; commutative = common_is_commutative; idempotent = common_is_idempotent }
