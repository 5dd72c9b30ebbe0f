use Rattle.merge_laws.proofs.Shared.{◌≡◌, ◌<◌, ◌≤◌, get_or, length, take, AllWithin, Less, new_items, new_values, entry_key}
use Rattle.merge_laws.proofs.sorted_map.changes_by.Given as goal

-- all entries before index `from` are below the next entry of the other map
abbrev pub invariant-loop-other : goal.invariant-loop-other
invariant-loop-other g l = record {
  values : l.changes.values.items ≡ new_values g.K.Ord.cmp g.V.Merge.merged l.entries (take l.other-index l.others);
  new_entries : l.changes.new_entries.items ≡ new_items g.K.Ord.cmp entry_key l.entries (take l.other-index l.others);
  within : l.from ≤ length l.entries;
  passed : (d : g.row.K.Denot × g.row.V.Denot) → l.other-index < length l.others → AllWithin (λ e. g.K.Ord.cmp e.0 (get_or l.others l.other-index d).0 ≡ Less) l.entries 0 l.from;
}
