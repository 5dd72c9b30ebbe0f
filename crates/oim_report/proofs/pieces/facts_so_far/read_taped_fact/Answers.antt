use Rattle.std.proofs.lemmas.Result.{IfOk-weaker}
use Rattle.oim_report.proofs.pieces.facts_so_far.read_taped_fact.Goals as goal

pub returns-clause-said : goal.returns-clause-said
returns-clause-said c = λ v begins.
    let object = c.in_ok-parts.ensures v begins in
    IfOk-weaker c.read_parts.result _ _ (λ f said. record { found = object.found; reads = object.reads; flat = object.flat; is = said object.found object.are }) c.read_parts.ensures.ok
