use Rattle.fact_base.proofs.Shared.{◌∷◌, [], sym, ap, subst, ◌∙◌, on_ok_weaker, SameMembers, Body, body, gathered, union, Contents, Fits}
use Rattle.fact_base.proofs.BuilderLaws.{document_fits, gathered_document}
use Rattle.fact_base.proofs.Stored.{same_moved}
use Rattle.fact_base.proofs.base_builder.BaseBuilder.gather.Goals as goal

pub append-requires : goal.append-requires
append-requires c =
    let d = c.args.report.document in
    let facts = c.in_order-facts.result.items in
    let references = c.in_ok-references.references.items in
    let same = subst (SameMembers facts) c.into_facts-facts.ensures.facts (same_moved c.into_facts-facts.result.0.items facts c.in_order-facts.ensures.moved) in
    let is = gathered_document facts references d same (c.in_ok-references.ensures.copies ∙ c.taxonomy.ensures) in
    let sheet = c.requires ∙ ap (λ (b : Contents). b.sheet) (sym c.settle.ensures) in
    subst (Fits c.settle.new.self.sheet) (sym is) (subst (λ s. Fits s (body (d ∷ []))) sheet (document_fits c.args.report.sheet d c.known.ensures.facts c.known.ensures.references))

pub returns-clause-ok : goal.returns-clause-ok
returns-clause-ok c =
    let d = c.args.report.document in
    let facts = c.in_order-facts.result.items in
    let references = c.in_ok-references.references.items in
    let same = subst (SameMembers facts) c.into_facts-facts.ensures.facts (same_moved c.into_facts-facts.result.0.items facts c.in_order-facts.ensures.moved) in
    let is = gathered_document facts references d same (c.in_ok-references.ensures.copies ∙ c.taxonomy.ensures) in
    on_ok_weaker c.append.result (λ with.
    with
    ∙ ap (λ (b : Contents). let x : Contents = record { sheet = b.sheet; body = union b.body (gathered facts references) } in x) c.settle.ensures
    ∙ ap (λ (b : Body). let x : Contents = record { sheet = c.args.self.now.sheet; body = union c.args.self.now.body b } in x) is)
    c.append.ensures.ok
