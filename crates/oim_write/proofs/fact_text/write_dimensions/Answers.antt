use Rattle.oim_write.proofs.Shared.{[], ◌∷◌, codes, ap, Token, string, ordered_dimensions}
use Rattle.oim_write.proofs.Tokens.{Adds-is, Adds-one, closed_object, then_member}
use Rattle.oim_write.proofs.fact_text.write_dimensions.Goals as goal

pub returns : goal.returns
returns g c =
    let spelled = g.S.Spelling.spelled c.args.spelling.now in
    let concept = Adds-is (ap (λ n. Token.string (spelled n) ∷ []) c.concept.ensures) c.in_ok-write_name.ensures in
    closed_object c.end_object.result (ordered_dimensions spelled c.args.dimensions.now) (Adds-one c.in_ok-begin_object.ensures)
    (then_member (codes "concept") (string (spelled c.args.dimensions.now.concept)) _ (Adds-one c.in_ok-key.ensures) concept c.in_ok-write_others.ensures)
    c.end_object.ensures
