use Rattle.std.proofs.lemmas.Result.{on_ok_weaker}
use Rattle.oim_explain.proofs.Appended.{repeated_then}
use Rattle.oim_explain.proofs.repeated.push_report.Goals as goal

pub returns : goal.returns
returns c =
    let front = repeated_then _ _ _ (repeated_then _ _ _ c.in_ok-push_of.ensures c.in_ok-push_info.ensures) c.in_ok-push_of-2.ensures in
    on_ok_weaker c.push_facts.result (λ last. repeated_then _ _ _ front last) c.push_facts.ensures
