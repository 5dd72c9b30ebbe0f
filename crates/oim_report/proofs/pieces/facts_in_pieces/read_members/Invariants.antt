use Rattle.oim_report.proofs.Shared.{◌≡◌, false, length, InMembers, HasMember, AreMore}
use Rattle.json.specs.Json as j
use Rattle.oim_report.proofs.TapedFacts.{AreReading}
use Rattle.oim_report.proofs.pieces.facts_in_pieces.read_members.Given as goal

abbrev pub invariant-loop-key : goal.invariant-loop-key
invariant-loop-key l =
    ((vs : j.Members) → InMembers l.initial.members vs → AreReading vs l.members (λ ms. (l.is_empty ≡ false → HasMember ms) × AreMore l.initial.reader.sheet l.initial.reader.aliases ms l.initial.facts l.facts)) × (l.reader ≡ l.initial.reader)

abbrev pub decreases-loop-key : goal.decreases-loop-key
decreases-loop-key l = length l.members
