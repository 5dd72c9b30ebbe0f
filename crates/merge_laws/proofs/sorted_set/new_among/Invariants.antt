use Rattle.merge_laws.proofs.Shared.{◌≡◌, ◌<◌, ◌≤◌, get_or, length, take, AllWithin, Less, new_items, itself}
use Rattle.merge_laws.proofs.sorted_set.new_among.Given as goal

-- all items before index `from` are below the next item of the other set
abbrev pub invariant-loop-other : goal.invariant-loop-other
invariant-loop-other g l = record {
  news : l.news.items ≡ new_items g.T.Ord.cmp itself l.items (take l.other-index l.others);
  within : l.from ≤ length l.items;
  passed : (d : g.row.T.Denot) → l.other-index < length l.others → AllWithin (λ e. g.T.Ord.cmp e (get_or l.others l.other-index d) ≡ Less) l.items 0 l.from;
}
