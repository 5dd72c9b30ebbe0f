use Rattle.std.proofs.lemmas.Result.{on_ok_weaker}
use Rattle.oim_explain.proofs.Appended.{repeated_then}
use Rattle.oim_explain.proofs.repeated.push_sheet.Goals as goal

pub returns : goal.returns
returns c =
    let front = repeated_then _ _ _ (repeated_then _ _ _ c.in_ok-push_of.ensures c.in_ok-push_of-2.ensures) c.in_ok-push_of-3.ensures in
    on_ok_weaker c.push_of-4.result (λ last. repeated_then _ _ _ front last) c.push_of-4.ensures
