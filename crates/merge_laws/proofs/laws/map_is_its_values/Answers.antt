use Rattle.merge_laws.proofs.Members.{map_is_its_values}
use Rattle.merge_laws.proofs.laws.map_is_its_values.Goals as goal

pub returns : goal.returns
returns g c = map_is_its_values g.met.K.Ord.total g.met.K.Key.exact g.row.V.Denot
