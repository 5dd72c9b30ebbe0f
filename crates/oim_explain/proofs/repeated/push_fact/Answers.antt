use Rattle.std.proofs.lemmas.Result.{on_ok_weaker}
use Rattle.oim_explain.proofs.Appended.{repeated_then}
use Rattle.oim_explain.proofs.repeated.push_fact.Goals as goal

pub returns : goal.returns
returns c = on_ok_weaker c.push_of-2.result (λ last. repeated_then _ _ _ c.in_ok-push_of.ensures last) c.push_of-2.ensures
