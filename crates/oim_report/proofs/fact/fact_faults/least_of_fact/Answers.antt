use Rattle.oim_report.proofs.Shared.{sym, ◌∙◌, IfOk-weaker, view}
use Rattle.oim_report.proofs.AllFaults.{fact_least}
use Rattle.oim_report.proofs.fact.fact_faults.least_of_fact.Goals as goal

pub returns : goal.returns
returns c =
    let fact = c.args.fact.now in
    IfOk-weaker c.first_of_fact.result _ _ (λ found h. h ∙ sym (fact_least fact.sheet.now fact.aliases.now (view fact.object.now))) c.first_of_fact.ensures
