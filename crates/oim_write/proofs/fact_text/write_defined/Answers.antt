use Rattle.oim_write.proofs.Shared.{[], ◌∷◌, ◌++◌, take, sym, ap, ◌∙◌, arith, take_more, key, no_members, defined_members, members_tokens}
use Rattle.oim_write.proofs.Tokens.{Adds-is, Adds-one, Adds-trans, defined_next}
use Rattle.oim_write.proofs.fact_text.write_defined.Goals as goal

pub loop-name-preserved : goal.loop-name-preserved
loop-name-preserved g c =
    let spelled = g.S.Spelling.spelled c.args.spelling.now in
    let es = c.args.members.now in
    let i = c.loop-name.name-index in
    let e = c.loop-name-item.result in
    let more = take_more es i e (omega arith) ∙ ap (λ x. take i es ++ x ∷ []) (sym c.loop-name-item.is) in
    let name = Adds-is (ap (λ t. key t ∷ []) (c.as_str.ensures.value ∙ c.in_ok-spell.ensures)) (Adds-one c.in_ok-key.ensures) in
    Adds-is (sym (defined_next spelled (take i es) e) ∙ ap (λ ds. members_tokens (defined_members spelled ds no_members)) (sym more))
    (Adds-trans c.loop-name.invariant (Adds-trans name c.in_ok-write_member.ensures))
