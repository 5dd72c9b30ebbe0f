use Rattle.oim_dims.proofs.Orders.{dimensions_agree, dimensions_cmp_exact, dimensions_cmp_total}
use Rattle.oim_dims.proofs.laws.dimensions_are_ordered.Goals as goal

pub returns : goal.returns
returns c = record { derived = dimensions_agree; total = dimensions_cmp_total; exact = dimensions_cmp_exact }
