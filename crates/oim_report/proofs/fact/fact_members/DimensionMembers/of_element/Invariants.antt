use Rattle.oim_report.proofs.Shared.{◌≡◌, length, InMembers, dimension_parts, seen_dimensions}
use Rattle.json.specs.Json as j
use Rattle.oim_report.proofs.TapedFacts.{IsReading}
use Rattle.oim_report.proofs.fact.fact_members.DimensionMembers.of_element.Given as goal

abbrev pub invariant-loop-key : goal.invariant-loop-key
invariant-loop-key l = (vs : j.Members) → InMembers l.initial.members vs → IsReading 0 vs l.members (λ ms. dimension_parts ms ≡ seen_dimensions l.parts)

abbrev pub decreases-loop-key : goal.decreases-loop-key
decreases-loop-key l = length l.members
