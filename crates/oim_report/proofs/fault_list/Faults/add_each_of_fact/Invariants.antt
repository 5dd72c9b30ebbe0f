use Rattle.oim_report.proofs.Shared.{◌≡◌, ◌++◌, map, drop, filter, view, listed, holds, fact_fault}
use Rattle.oim_report.proofs.fault_list.Faults.add_each_of_fact.Given as goal

abbrev pub invariant-loop-reason : goal.invariant-loop-reason
invariant-loop-reason l =
    let sheet = l.fact.sheet.now in
    let bs = l.fact.aliases.now in
    let object = view l.fact.object.now in
    let mine = map (fact_fault sheet bs object l.place) in
    let found = filter (holds sheet bs object) in
    listed l.self ++ mine (found (drop l.reason-index l.reasons)) ≡ listed l.fn.self ++ mine (found l.reasons)
