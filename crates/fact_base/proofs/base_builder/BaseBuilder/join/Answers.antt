use Rattle.fact_base.proofs.Shared.{◌≡◌, ap, subst, ◌∙◌, Body, gathered, union, Contents}
use Rattle.fact_base.proofs.BuilderLaws.{adds_nothing, union_swaps}
use Rattle.fact_base.proofs.base_builder.BaseBuilder.join.Goals as goal

pub returns-then-has_all : goal.returns-then-has_all
returns-then-has_all c =
    let inside = c.self.inside in
    let more = c.args.other.now.body in
    subst (λ (b : Contents). b ≡ record { sheet = b.sheet; body = union b.body more }) c.self.view_is
    (ap (λ (b : Body). let x : Contents = record { sheet = inside.base.sheet; body = b } in x)
    (adds_nothing inside.base.body (gathered inside.facts.items inside.references.items) more (c.has_all.ensures c.if-has_all.true)))

pub returns : goal.returns
returns c =
    let inside = c.self.inside in
    let more = c.args.other.now.body in
    let others = gathered inside.facts.items inside.references.items in
    ap (λ (b : Contents). let x : Contents = record { sheet = b.sheet; body = union b.body others } in x) c.in_ok-join.ensures.ok
    ∙ ap (λ (b : Body). let x : Contents = record { sheet = inside.base.sheet; body = b } in x) (union_swaps inside.base.body more others)
    ∙ ap (λ (b : Contents). let x : Contents = record { sheet = b.sheet; body = union b.body more } in x) c.self.view_is
