use Rattle.oim_dims.proofs.Shared.{◌≡◌, length, arith, ◌∙◌, sym, ap, position_or_len, slice_split, is_slash, is_star, inner}
use Rattle.oim_dims.proofs.Sides.{one_side, two_sides}
use Rattle.oim_dims.proofs.unit_text.sides.Goals as goal

pub returns-in-Some-clause-numerators : goal.returns-in-Some-clause-numerators
returns-in-Some-clause-numerators c =
    let cut = c.in-Some.ensures.byte (omega arith) (λ w o h. h) in
    let both = two_sides c.args.text.now cut.2 in
    ap (slice_split is_star) (c.inner.ensures ∙ ap inner cut.0) ∙ sym both.0

pub returns-in-Some-clause-denominators : goal.returns-in-Some-clause-denominators
returns-in-Some-clause-denominators c =
    let cut = c.in-Some.ensures.byte (omega arith) (λ w o h. h) in
    let both = two_sides c.args.text.now cut.2 in
    ap (slice_split is_star) (c.inner-in-Some.ensures ∙ ap inner cut.1) ∙ sym both.1

pub returns-in-None-clause-numerators : goal.returns-in-None-clause-numerators
returns-in-None-clause-numerators c =
    let whole : position_or_len is_slash c.args.text.now ≡ length c.args.text.now = c.in-None.ensures.byte (omega arith) (λ w o h. h) in
    let one = one_side c.args.text.now whole in
    ap (slice_split is_star) c.inner-in-None.ensures ∙ sym one.0

pub returns-in-None-clause-denominators : goal.returns-in-None-clause-denominators
returns-in-None-clause-denominators c =
    let whole : position_or_len is_slash c.args.text.now ≡ length c.args.text.now = c.in-None.ensures.byte (omega arith) (λ w o h. h) in
    (one_side c.args.text.now whole).1
