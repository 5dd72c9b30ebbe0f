use Rattle.oim_value.proofs.ValueOrders.{values_agree}
use Rattle.oim_value.proofs.laws.values_are_ordered.Goals as goal

pub returns : goal.returns
returns c = values_agree
