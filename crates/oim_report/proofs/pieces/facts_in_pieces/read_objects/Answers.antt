use Rattle.std.proofs.lemmas.Result.{on_ok_weaker}
use Rattle.oim_report.proofs.pieces.facts_in_pieces.read_objects.Goals as goal

pub returns-in-Some-clause-more : goal.returns-in-Some-clause-more
returns-in-Some-clause-more c = λ v begins.
    let object = c.in-Some.ensures v begins in
    on_ok_weaker c.read_members.result (λ h. (object.0, object.1, h.0, h.1, h.2, h.3)) (c.read_members.ensures.more object.0 object.2)
