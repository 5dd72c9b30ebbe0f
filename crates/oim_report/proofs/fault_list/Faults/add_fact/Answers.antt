use Rattle.oim_report.proofs.Shared.{◌++◌, map, ap, sym, IfOk-equal, view, listed, fact_fault}
use Rattle.oim_report.proofs.AllFaults.{fact_told}
use Rattle.oim_report.proofs.fault_list.Faults.add_fact.Goals as goal

pub returns : goal.returns
returns c =
    let sheet = c.args.fact.now.sheet.now in
    let bs = c.args.fact.now.aliases.now in
    let object = view c.args.fact.now.object.now in
    IfOk-equal c.add_each_of_fact.result (listed c.add_each_of_fact.new.self) _ _ c.add_each_of_fact.ensures
    (ap (λ rs. listed c.args.self.now ++ map (fact_fault sheet bs object c.args.place) rs) (sym (fact_told sheet bs object)))
