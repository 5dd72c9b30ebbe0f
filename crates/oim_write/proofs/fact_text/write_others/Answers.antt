use Rattle.oim_write.proofs.Shared.{codes, ap, ◌∙◌, on_ok_weaker, period_text, no_members, option_spelled, option_unit_text}
use Rattle.oim_write.proofs.Tokens.{Adds-none, then_defined, then_text}
use Rattle.oim_write.proofs.fact_text.write_others.Goals as goal

pub returns : goal.returns
returns g c =
    let spelled = g.S.Spelling.spelled c.args.spelling.now in
    let period = c.in_ok-text.ensures ∙ ap period_text c.period.ensures in
    on_ok_weaker c.write_unit_member.result
    (λ unit.
    then_text (codes "entity") _ (ap (option_spelled spelled) c.entity.ensures) c.in_ok-write_entity.ensures
    (then_text (codes "language") _ c.language.ensures c.in_ok-write_text.ensures
    (then_defined spelled _ c.members.ensures.members c.in_ok-write_defined.ensures
    (then_text (codes "period") _ period c.in_ok-write_text-2.ensures
    (then_text (codes "unit") no_members (ap (option_unit_text spelled) c.unit.ensures) unit Adds-none)))))
    c.write_unit_member.ensures
