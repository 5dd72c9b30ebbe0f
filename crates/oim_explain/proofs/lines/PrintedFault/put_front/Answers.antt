use Rattle.std.proofs.lemmas.Result.{on_ok_weaker}
use Rattle.oim_explain.proofs.Appended.{tokens_one, tokens_then}
use Rattle.oim_explain.proofs.lines.PrintedFault.put_front.Goals as goal

pub returns : goal.returns
returns c =
    let file = tokens_then (tokens_one c.in_ok-begin_object.ensures) (tokens_then c.in_ok-put_number.ensures c.in_ok-put_text.ensures) in
    on_ok_weaker c.put_text-2.result (λ last. tokens_then file (tokens_then c.in_ok-put_place.ensures (tokens_then c.in_ok-put_reason.ensures last))) c.put_text-2.ensures
