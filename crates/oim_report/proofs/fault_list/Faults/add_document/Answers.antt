use Rattle.oim_report.proofs.Shared.{◌++◌, map, ap, sym, IfOk-equal, view, listed, document_fault}
use Rattle.oim_report.proofs.AllFaults.{document_told}
use Rattle.oim_report.proofs.fault_list.Faults.add_document.Goals as goal

pub returns : goal.returns
returns c =
    let tree = view c.args.tree.now in
    IfOk-equal c.add_each_of_document.result (listed c.add_each_of_document.new.self) _ _ c.add_each_of_document.ensures
    (ap (λ rs. listed c.args.self.now ++ map (document_fault tree) rs) (sym (document_told tree)))
