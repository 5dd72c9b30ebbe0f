use Rattle.fact_base.proofs.Bodies.{accepted_fits, union_fits}
use Rattle.fact_base.proofs.laws.accepted_fits.Goals as goal

pub returns : goal.returns
returns c = record { accepted = accepted_fits; union = union_fits }
