use Rattle.oim_write.proofs.Shared.{sym, subst, text_cmp, IsSet}
use Rattle.oim_write.proofs.UriSets.{set_rises}
use Rattle.oim_write.proofs.uri_set.UriSet.into_uris.Goals as goal

pub returns-clause-rises : goal.returns-clause-rises
returns-clause-rises c = subst (IsSet text_cmp) (sym c.put_in_order.ensures) (set_rises c.self.inside.uris.items)
