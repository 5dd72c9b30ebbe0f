use Rattle.merge_laws.proofs.Members.{map_union_keeps, map_with_keeps}
use Rattle.merge_laws.proofs.laws.map_keeps_what_merging_keeps.Goals as goal

pub returns : goal.returns
returns g c = record { union = map_union_keeps g.met.K.Key.exact g.V.Merge.merged; put = map_with_keeps g.met.K.Key.exact g.V.Merge.merged }
