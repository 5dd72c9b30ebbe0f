use Rattle.merge_laws.proofs.Members.{set_is_its_members}
use Rattle.merge_laws.proofs.laws.set_is_its_members.Goals as goal

pub returns : goal.returns
returns g c = set_is_its_members g.met.T.Ord.total g.met.T.Key.exact
