use Rattle.oim_report.proofs.Shared.{◌≡◌, drop, find, view, holds}
use Rattle.oim_report.proofs.fact.fact_faults.first_of_fact.Given as goal

abbrev pub invariant-loop-reason : goal.invariant-loop-reason
invariant-loop-reason l =
    let first = find (holds l.fact.sheet.now l.fact.aliases.now (view l.fact.object.now)) in
    first (drop l.reason-index l.reasons) ≡ first l.reasons
