use Rattle.oim_report.proofs.Shared.{sym, ◌∙◌, no_members, put_all}
use Rattle.oim_report.proofs.FoundInOrder.{rising_found, found_by, ranked_by}
use Rattle.oim_report.proofs.pieces.found_facts.FoundFacts.in_order.Goals as goal

pub returns-then-rise-clause-found : goal.returns-then-rise-clause-found
returns-then-rise-clause-found c = λ sheet bs ms h.
    rising_found sheet bs ms _ _ h (sym c.rise.ensures ∙ c.if-rise.true)

pub returns-clause-found : goal.returns-clause-found
returns-clause-found c = λ sheet bs ms h.
    let e = c.in_ok-found_in.ensures in
    found_by sheet bs (put_all ms no_members) _ _ _ _ e.0 e.1 (c.in_ok-found.ensures.found sheet bs ms h)

pub returns-clause-ranks : goal.returns-clause-ranks
returns-clause-ranks c = λ sheet h.
    let e = c.in_ok-found_in.ensures in
    ranked_by sheet.concepts _ _ _ _ e.1 e.2 (c.in_ok-found.ensures.ranks sheet h)
