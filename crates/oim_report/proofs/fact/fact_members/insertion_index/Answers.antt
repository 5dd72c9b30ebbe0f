use Rattle.oim_report.proofs.Shared.{rules, ◌≡◌, ◌+◌, length, sym, ap, ◌∙◌, insert, seen_defined}
use Rattle.oim_report.proofs.MembersPut.{above_next, before_next, behind_all}
use Rattle.oim_report.proofs.fact.fact_members.insertion_index.Goals as goal

pub returns-in-Less-clause-index : goal.returns-in-Less-clause-index
returns-in-Less-clause-index c = λ g.
    let l = c.loop-other in
    before_next c.args.key.now g l.other-index c.args.defined.now _ l.invariant.1 c.loop-other-test.true (sym c.cmp.ensures ∙ c.in-Less.is)
    ∙ ap (λ n. insert (seen_defined c.args.defined.now) n (c.args.key.now, g)) (sym l.invariant.0)

pub loop-other-preserved : goal.loop-other-preserved
loop-other-preserved c =
    let l = c.loop-other in
    (ap (λ n. n + 1) l.invariant.0, above_next c.args.key.now l.other-index c.args.defined.now _ l.invariant.1 c.loop-other-test.true (sym c.cmp.ensures ∙ c.in-Greater.is))

pub returns-clause-index : goal.returns-clause-index
returns-clause-index c = λ g.
    let l = c.loop-other in
    let end : l.other-index ≡ length c.args.defined.now = search rules in
    behind_all c.args.key.now g l.other-index c.args.defined.now l.invariant.1 end
    ∙ ap (λ n. insert (seen_defined c.args.defined.now) n (c.args.key.now, g)) (sym l.invariant.0)
