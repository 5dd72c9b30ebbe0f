use Rattle.merge_laws.proofs.Shared.{◌≡◌, ◌-◌, ◌≤◌, length, AllWithin, Less}
use Rattle.merge_laws.proofs.search.find_from.Given as goal

abbrev pub invariant-loop-step : goal.invariant-loop-step
invariant-loop-step g l = record {
  within : l.low ≤ length l.items;
  below : AllWithin (λ e. g.K.Ord.cmp (g.E.Keyed.key_of e) l.key ≡ Less) l.items 0 l.low;
}

abbrev pub decreases-loop-step : goal.decreases-loop-step
decreases-loop-step g l = length l.items - l.low
