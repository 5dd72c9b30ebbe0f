use Rattle.oim_report.proofs.Shared.{subst, no_members, put_all, AreSoFar}
use Rattle.oim_report.proofs.pieces.facts_so_far.FactsSoFar.in_order.Goals as goal

pub returns-in-Accepted-clause-found : goal.returns-in-Accepted-clause-found
returns-in-Accepted-clause-found c = λ sheet bs ms are. c.in_ok-in_order-in-Accepted.ensures.found sheet bs ms (subst (AreSoFar sheet bs ms) c.in-Accepted.is are).0

pub returns-in-Accepted-clause-ranks : goal.returns-in-Accepted-clause-ranks
returns-in-Accepted-clause-ranks c = λ sheet bs ms are. c.in_ok-in_order-in-Accepted.ensures.ranks sheet (subst (AreSoFar sheet bs ms) c.in-Accepted.is are).1

pub returns-in-Some-clause-refused : goal.returns-in-Some-clause-refused
returns-in-Some-clause-refused c = λ sheet bs ms are. c.in-Some.ensures sheet bs (put_all ms no_members) (subst (AreSoFar sheet bs ms) c.in-Refused.is are)
