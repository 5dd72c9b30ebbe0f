use Rattle.std.proofs.lemmas.Result.{on_ok_weaker}
use Rattle.oim_write.proofs.Measures.{gains_shared}
use Rattle.oim_write.proofs.uri_set.UriSet.add_measures.Goals as goal

pub returns-in-Some : goal.returns-in-Some
returns-in-Some c = on_ok_weaker c.add.result (λ gained. gains_shared c.in-Some.ensures gained) c.add.ensures
