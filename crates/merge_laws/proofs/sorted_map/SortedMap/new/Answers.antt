use Rattle.merge_laws.proofs.Shared.{sym, subst, IsRising, entry_key}
use Rattle.merge_laws.proofs.Rising.{none_rise}
use Rattle.merge_laws.proofs.sorted_map.SortedMap.new.Goals as goal

pub of_rising-requires : goal.of_rising-requires
of_rising-requires g c = subst (IsRising g.K.Ord.cmp entry_key) (sym c.new.ensures.items) (none_rise g.K.Ord.cmp entry_key)
