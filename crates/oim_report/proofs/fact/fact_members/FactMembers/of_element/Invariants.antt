use Rattle.oim_report.proofs.Shared.{length, InMembers, seen_parts, IsSoFar}
use Rattle.json.specs.Json as j
use Rattle.oim_report.proofs.TapedFacts.{IsReading}
use Rattle.oim_report.proofs.fact.fact_members.FactMembers.of_element.Given as goal

abbrev pub invariant-loop-key : goal.invariant-loop-key
invariant-loop-key l = (vs : j.Members) → InMembers l.initial.members vs → IsReading 124 vs l.members (λ ms. IsSoFar ms (seen_parts l.parts))

abbrev pub decreases-loop-key : goal.decreases-loop-key
decreases-loop-key l = length l.members
