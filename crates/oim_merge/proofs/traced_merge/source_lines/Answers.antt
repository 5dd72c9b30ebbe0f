use Rattle.oim_merge.proofs.Shared.{[], subst, IfErr, IfOk, AppendsMentions, MentionsStop, source_line, Traced}
use Rattle.oim_merge.proofs.traced_merge.source_lines.Goals as goal

pub returns-clause-ok : goal.returns-clause-ok
returns-clause-ok g c =
    let told = g.S.Sink.told in
    subst (λ (t : Traced). IfOk c.finish.result (AppendsMentions [] source_line t (told c.args.out.now) (told c.finish.new.out))) c.in_ok-of.ensures c.finish.ensures.ok

pub returns-clause-err : goal.returns-clause-err
returns-clause-err g c =
    let told = g.S.Sink.told in
    subst (λ (t : Traced). IfErr c.finish.result (MentionsStop [] source_line t (told c.args.out.now) (told c.finish.new.out))) c.in_ok-of.ensures c.finish.ensures.err
