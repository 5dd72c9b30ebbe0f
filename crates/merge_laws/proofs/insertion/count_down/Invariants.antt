use Rattle.merge_laws.proofs.Shared.{◌≡◌, ◌+◌, ◌-◌, ◌≤◌, ◌++◌, vec_len, vec_capacity, min, reverse, range_with_len}
use Rattle.merge_laws.proofs.insertion.count_down.Given as goal

abbrev pub invariant-loop-low : goal.invariant-loop-low
invariant-loop-low l = record {
  first : l.first ≤ l.low;
  below : l.low ≤ l.initial.low;
  reached : min l.initial.low l.index ≤ l.low;
  listed : reverse l.order.items ≡ range_with_len (l.low - l.first) (l.initial.low - l.low) ++ reverse l.initial.order.items;
  count : vec_len l.order + l.low ≡ vec_len l.initial.order + l.initial.low;
  storage : vec_capacity l.order ≡ vec_capacity l.initial.order;
}

abbrev pub decreases-loop-low : goal.decreases-loop-low
decreases-loop-low l = l.low - l.index
