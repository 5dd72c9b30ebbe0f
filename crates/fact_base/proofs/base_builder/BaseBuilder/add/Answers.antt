use Rattle.fact_base.proofs.Shared.{◌∷◌, [], ap, ◌∙◌, Body, body, gathered, union, Contents}
use Rattle.fact_base.proofs.BuilderLaws.{union_swaps}
use Rattle.fact_base.proofs.base_builder.BaseBuilder.add.Goals as goal

pub returns-clause-ok : goal.returns-clause-ok
returns-clause-ok c =
    let inside = c.self.inside in
    let more = body (c.args.report.document ∷ []) in
    let others = gathered inside.facts.items inside.references.items in
    ap (λ (b : Contents). let x : Contents = record { sheet = b.sheet; body = union b.body others } in x) c.in_ok-absorb_report.ensures.ok
    ∙ ap (λ (b : Body). let x : Contents = record { sheet = inside.base.sheet; body = b } in x) (union_swaps inside.base.body more others)
    ∙ ap (λ (b : Contents). let x : Contents = record { sheet = b.sheet; body = union b.body more } in x) c.self.view_is
