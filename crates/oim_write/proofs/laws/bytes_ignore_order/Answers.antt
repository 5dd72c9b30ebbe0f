use Rattle.oim_write.proofs.Shared.{ap, canonical}
use Rattle.fact_base.proofs.Bodies.{body_ignores_order}
use Rattle.oim_write.proofs.laws.bytes_ignore_order.Goals as goal

pub returns : goal.returns
returns c = λ ds es same. ap canonical (body_ignores_order ds es same)
