use Rattle.oim_write.proofs.Shared.{nat_list_cmp_total, fact_cmp_total}
use Rattle.oim_write.proofs.Ranks.{ranks_are_within}
use Rattle.oim_write.proofs.laws.ranks_are_within.Goals as goal

pub returns : goal.returns
returns c = record { facts = ranks_are_within fact_cmp_total; uris = ranks_are_within nat_list_cmp_total }
