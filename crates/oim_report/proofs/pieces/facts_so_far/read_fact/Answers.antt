use Rattle.oim_report.proofs.Shared.{IfOk, subst, sym, ap, ◌∙◌, IfOk-weaker, view, holds, least, IsSaid, Scope}
use Rattle.oim_report.proofs.FaultLaws.{refused_least}
use Rattle.oim_report.proofs.pieces.facts_so_far.read_fact.Goals as goal

pub returns-in-Some-clause-said : goal.returns-in-Some-clause-said
returns-in-Some-clause-said c = λ v begins.
    let s = c.args.reader.now in
    let d = view c.in_ok-tree.tree in
    let tree = c.in_ok-tree.ensures v begins in
    let found = ap (λ (s : Scope). least (holds s.sheet s.aliases d)) (sym c.read_taped_fact.ensures.same) ∙ sym c.in_ok-reason.ensures ∙ c.in-Some.is in
    record { found = d; reads = tree.reads; flat = tree.flat; is = refused_least s.sheet s.aliases d c.in-Some.reason found }

pub returns-clause-said : goal.returns-clause-said
returns-clause-said c = λ v begins.
    let tree = c.in_ok-tree.ensures v begins in
    subst (λ (s : Scope). IfOk c.read_tree.result (λ said. IsSaid s.sheet s.aliases v said)) c.read_taped_fact.ensures.same
    (IfOk-weaker c.read_tree.result _ _ (λ said h. record { found = view c.in_ok-tree.tree; reads = tree.reads; flat = tree.flat; is = h }) c.read_tree.ensures.said)
