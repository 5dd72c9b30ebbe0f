use Rattle.std.proofs.Common.{◌≡◌, ℕ, ◌+◌, ◌-◌, ◌<◌, get_or, length}
use Rattle.merge_laws.proofs.Swaps.{Moved, misplaced}
use Rattle.merge_laws.proofs.placing.place.Given as goal

-- swaps moved the items, and each index before `i` is where it belongs
abbrev pub invariant-loop-i : goal.invariant-loop-i
invariant-loop-i g l = record {
  moved : Moved l.first l.initial.items.items l.fn.order.items l.items.items l.indices.items;
  indexed : (k : ℕ) → k < l.i → get_or l.indices.items k 0 ≡ k;
}

abbrev pub decreases-loop-i : goal.decreases-loop-i
decreases-loop-i g l = length l.indices.items - l.i + misplaced 0 l.indices.items
