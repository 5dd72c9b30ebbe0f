use Rattle.oim_merge.proofs.Shared.{ap, body_ignores_order, canonical}
use Rattle.oim_merge.proofs.laws.reports_ignore_order.Goals as goal

pub returns : goal.returns
returns c = λ sheet reports others same. ap canonical (body_ignores_order _ _ same)
