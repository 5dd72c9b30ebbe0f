use Rattle.oim_report.proofs.Shared.{◌+◌, ◌-◌, ◌*◌, length, ⊤, InItems, InMembers}
use Rattle.json.specs.Json as j
use Rattle.oim_report.proofs.TapedFacts.{AreSkipped, IsReading}
use Rattle.oim_report.proofs.json_values.skipped.+skip.Given as goal

abbrev pub decreases-skip_value : goal.decreases-skip_value
decreases-skip_value l = 2 * l.levels + 1

abbrev pub decreases-skip_items : goal.decreases-skip_items
decreases-skip_items l = 2 * l.levels

abbrev pub decreases-skip_members : goal.decreases-skip_members
decreases-skip_members l = 2 * l.levels

abbrev pub invariant-skip_items-loop-item : goal.invariant-skip_items-loop-item
invariant-skip_items-loop-item l = (vs : j.Items) → InItems l.initial.items vs → AreSkipped l.levels vs l.items

abbrev pub decreases-skip_items-loop-item : goal.decreases-skip_items-loop-item
decreases-skip_items-loop-item l = length l.items

abbrev pub invariant-skip_members-loop-key : goal.invariant-skip_members-loop-key
invariant-skip_members-loop-key l = (vs : j.Members) → InMembers l.initial.members vs → IsReading (l.levels - 1) vs l.members (λ ms. ⊤)

abbrev pub decreases-skip_members-loop-key : goal.decreases-skip_members-loop-key
decreases-skip_members-loop-key l = length l.members
