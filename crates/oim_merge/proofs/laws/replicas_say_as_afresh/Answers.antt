use Rattle.oim_merge.proofs.Agreement.{replicas_say_as_afresh}
use Rattle.oim_merge.proofs.laws.replicas_say_as_afresh.Goals as goal

pub returns : goal.returns
returns c = replicas_say_as_afresh
