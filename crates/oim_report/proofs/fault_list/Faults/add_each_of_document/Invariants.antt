use Rattle.oim_report.proofs.Shared.{◌≡◌, ◌++◌, map, drop, filter, view, listed, document_holds, is_shown, document_fault}
use Rattle.oim_report.proofs.fault_list.Faults.add_each_of_document.Given as goal

abbrev pub invariant-loop-reason : goal.invariant-loop-reason
invariant-loop-reason l =
    let tree = view l.tree in
    let found = filter (is_shown (document_holds tree)) in
    listed l.self ++ map (document_fault tree) (found (drop l.reason-index l.reasons)) ≡ listed l.fn.self ++ map (document_fault tree) (found l.reasons)
