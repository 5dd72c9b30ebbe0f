use Rattle.merge_laws.proofs.Shared.{◌≡◌, ◌-◌, ◌≤◌, length, AllWithin, Less, Greater}
use Rattle.merge_laws.proofs.search.halve.Given as goal

abbrev pub invariant-loop-low : goal.invariant-loop-low
invariant-loop-low g l = record {
  order : l.low ≤ l.high;
  within : l.high ≤ length l.items;
  below : AllWithin (λ e. g.K.Ord.cmp (g.E.Keyed.key_of e) l.key ≡ Less) l.items 0 l.low;
  above : AllWithin (λ e. g.K.Ord.cmp (g.E.Keyed.key_of e) l.key ≡ Greater) l.items l.high (length l.items);
}

abbrev pub decreases-loop-low : goal.decreases-loop-low
decreases-loop-low g l = l.high - l.low
