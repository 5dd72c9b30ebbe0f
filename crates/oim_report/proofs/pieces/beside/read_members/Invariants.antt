use Rattle.oim_report.proofs.Shared.{◌≡◌, false, length, InMembers, members_view, HasMember, Adds}
use Rattle.json.specs.Json as j
use Rattle.oim_report.proofs.TapedFacts.{IsReading}
use Rattle.oim_report.proofs.pieces.beside.read_members.Given as goal

abbrev pub invariant-loop-key : goal.invariant-loop-key
invariant-loop-key l = (vs : j.Members) → InMembers l.initial.members vs → IsReading 125 vs l.members (λ ms. Adds ms (members_view l.initial.tree.entries) (members_view l.tree.entries) × (l.is_empty ≡ false → HasMember ms))

abbrev pub decreases-loop-key : goal.decreases-loop-key
decreases-loop-key l = length l.members
