use Rattle.oim_dims.proofs.Orders.{facts_agree, fact_cmp_exact, fact_cmp_total}
use Rattle.oim_dims.proofs.laws.facts_are_ordered.Goals as goal

pub returns : goal.returns
returns c = record { derived = facts_agree; total = fact_cmp_total; exact = fact_cmp_exact }
