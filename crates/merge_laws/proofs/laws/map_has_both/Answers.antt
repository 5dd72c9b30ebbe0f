use Rattle.merge_laws.proofs.Both.{map_tells_entry, map_union_has_both, map_with_merges}
use Rattle.merge_laws.proofs.laws.map_has_both.Goals as goal

pub returns : goal.returns
returns g c = record { told = map_tells_entry g.met.K.Ord.total g.met.K.Key.exact g.V.Merge.merged; union = map_union_has_both g.met.K.Ord.total g.V.Merge.merged; put = map_with_merges g.met.K.Ord.total g.V.Merge.merged }
