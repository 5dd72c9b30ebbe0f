use Rattle.fact_base.proofs.Shared.{◌≡◌, ◌++◌, if◌then◌else◌, sym, ap, subst, ◌∙◌, arith, Body, gathered, union, Contents, Fits}
use Rattle.fact_base.proofs.Bodies.{union_fits}
use Rattle.fact_base.proofs.BuilderLaws.{always_ok, gathered_both, union_associates}
use Rattle.fact_base.proofs.base_builder.BaseBuilder.append.Goals as goal

pub invariant_of-self-2 : goal.invariant_of-self-2
invariant_of-self-2 c =
    let inside = c.self.inside in
    let done = c.append-2.ensures.succeeds (omega (arith, c.in_ok-reserve.ensures.ok, c.len.ensures)) in
    let facts : c.append-2.new.self.items ≡ inside.facts.items ++ c.args.facts.items = c.append-2.ensures.items ∙ ap (λ b. if b then c.reserve.new.self.items ++ c.args.facts.items else c.reserve.new.self.items) done ∙ ap (λ fs. fs ++ c.args.facts.items) c.reserve.ensures.items in
    let both = (λ i. gathered (facts i) (c.in_ok-append.ensures.items i)) ∙ gathered_both inside.facts.items c.args.facts.items inside.references.items c.args.references.items in
    let sheet = ap (λ (b : Contents). b.sheet) c.self.view_is in
    subst (Fits inside.base.sheet) (sym both)
    (union_fits inside.base.sheet (gathered inside.facts.items inside.references.items) (gathered c.args.facts.items c.args.references.items) c.self.invariant
    (subst (λ s. Fits s (gathered c.args.facts.items c.args.references.items)) (sym sheet) c.requires))

pub returns-clause-ok : goal.returns-clause-ok
returns-clause-ok c =
    let inside = c.self.inside in
    let done = c.append-2.ensures.succeeds (omega (arith, c.in_ok-reserve.ensures.ok, c.len.ensures)) in
    let facts : c.append-2.new.self.items ≡ inside.facts.items ++ c.args.facts.items = c.append-2.ensures.items ∙ ap (λ b. if b then c.reserve.new.self.items ++ c.args.facts.items else c.reserve.new.self.items) done ∙ ap (λ fs. fs ++ c.args.facts.items) c.reserve.ensures.items in
    let both = (λ i. gathered (facts i) (c.in_ok-append.ensures.items i)) ∙ gathered_both inside.facts.items c.args.facts.items inside.references.items c.args.references.items in
    let more = gathered c.args.facts.items c.args.references.items in
    always_ok c.append-2.result
    (ap (λ (b : Body). let x : Contents = record { sheet = inside.base.sheet; body = b } in x)
    (ap (union inside.base.body) both ∙ union_associates inside.base.body (gathered inside.facts.items inside.references.items) more)
    ∙ ap (λ (b : Contents). let x : Contents = record { sheet = b.sheet; body = union b.body more } in x) c.self.view_is)
