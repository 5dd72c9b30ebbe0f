use Rattle.oim_write.proofs.Shared.{[], ◌∷◌, codes, ap, Token, member, no_members, object, string, value_data, ordered_dimensions}
use Rattle.oim_write.proofs.Tokens.{Adds-is, Adds-none, Adds-one, closed_object, then_decimals, then_member, whole_object}
use Rattle.oim_write.proofs.fact_text.write_fact.Goals as goal

pub returns : goal.returns
returns g c =
    let spelled = g.S.Spelling.spelled c.args.spelling.now in
    let dimensions = ordered_dimensions spelled c.args.dimensions.now in
    let value = member (codes "value") (value_data spelled c.args.value.now) no_members in
    let concept = Adds-is (ap (λ t. Token.string t ∷ []) c.requires) (Adds-one c.in_ok-string.ensures) in
    let spelled_dimensions = whole_object dimensions (Adds-one c.in_ok-begin_object-2.ensures)
    (then_member (codes "concept") (string (spelled c.args.dimensions.now.concept)) _ (Adds-one c.in_ok-key-2.ensures) concept c.in_ok-write_others.ensures)
    (Adds-one c.in_ok-end_object.ensures) in
    closed_object c.end_object-2.result _ (Adds-one c.in_ok-begin_object.ensures)
    (then_decimals c.args.value.now _ c.in_ok-write_decimals.ensures
    (then_member (codes "dimensions") (object dimensions) value (Adds-one c.in_ok-key.ensures) spelled_dimensions
    (then_member (codes "value") (value_data spelled c.args.value.now) no_members (Adds-one c.in_ok-key-3.ensures) c.in_ok-write_value.ensures Adds-none)))
    c.end_object-2.ensures
