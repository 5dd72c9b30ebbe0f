use Rattle.fact_base.proofs.Shared.{◌≡◌, length, sym, ap, ◌∙◌, arith, nat_tests, nil_from_length, gathered, union, Contents}
use Rattle.fact_base.specs.Sets.{set_of}
use Rattle.fact_base.proofs.BuilderLaws.{with_nothing}
use Rattle.fact_base.proofs.base_builder.BaseBuilder.surely_same_as.Goals as goal

pub returns-then-is_empty-2 : goal.returns-then-is_empty-2
unfolding set_of
returns-then-is_empty-2 c =
    let inside = c.self.inside in
    let first = sym c.is_empty.ensures ∙ c.if-is_empty.true in
    let second = sym c.is_empty-then-is_empty.ensures ∙ c.if-is_empty-2.true in
    let no_facts : length inside.facts.items ≡ 0 = grind (arith, nat_tests) in
    let no_references : length inside.references.items ≡ 0 = grind (arith, nat_tests) in
    let facts = nil_from_length inside.facts.items no_facts in
    let references = nil_from_length inside.references.items no_references in
    λ h.
    sym (ap (λ (b : Contents). b.body) c.self.view_is)
    ∙ (λ i. union inside.base.body (gathered (facts i) (references i)))
    ∙ sym (with_nothing inside.base.body c.sheet-sheet.ensures.fits.rises)
    ∙ c.same_as.ensures.0 h
