use Rattle.merge_laws.proofs.Both.{set_tells_item, set_union_has_both, set_with_has_item}
use Rattle.merge_laws.proofs.laws.set_has_both.Goals as goal

pub returns : goal.returns
returns g c = record { told = set_tells_item g.met.T.Ord.total g.met.T.Key.exact; union = set_union_has_both g.met.T.Ord.total g.met.T.Key.exact; item = set_with_has_item g.met.T.Ord.total g.met.T.Key.exact }
