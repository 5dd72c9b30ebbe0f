use Rattle.oim_report.proofs.Shared.{◌≡◌, ◌+◌, ◌-◌, ◌*◌, length, InItems, InMembers, members_view}
use Rattle.json.specs.Json as j
use Rattle.oim_report.proofs.TapedFacts.{IsReading}
use Rattle.oim_report.proofs.TapedTrees.{AreTaken}
use Rattle.oim_report.proofs.pieces.taped_tree.+tree.Given as goal

abbrev pub decreases-tree_of : goal.decreases-tree_of
decreases-tree_of l = 2 * l.levels + 1

abbrev pub decreases-items_of : goal.decreases-items_of
decreases-items_of l = 2 * l.levels

abbrev pub decreases-members_of : goal.decreases-members_of
decreases-members_of l = 2 * l.levels

abbrev pub invariant-items_of-loop-item : goal.invariant-items_of-loop-item
invariant-items_of-loop-item l = (vs : j.Items) → InItems l.initial.items vs → AreTaken (l.levels - 1) vs l.items l.found.items

abbrev pub decreases-items_of-loop-item : goal.decreases-items_of-loop-item
decreases-items_of-loop-item l = length l.items

abbrev pub invariant-members_of-loop-name : goal.invariant-members_of-loop-name
invariant-members_of-loop-name l = (vs : j.Members) → InMembers l.initial.members vs → IsReading (l.levels - 1) vs l.members (λ ms. ms ≡ members_view l.found.entries)

abbrev pub decreases-members_of-loop-name : goal.decreases-members_of-loop-name
decreases-members_of-loop-name l = length l.members
