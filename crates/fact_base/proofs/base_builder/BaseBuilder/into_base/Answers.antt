use Rattle.fact_base.proofs.Shared.{◌≡◌, length, sym, ap, subst, ◌∙◌, arith, nat_tests, nil_from_length, IfOk-weaker, Body, gathered, union, Contents, Fits}
use Rattle.fact_base.specs.Sets.{set_of}
use Rattle.fact_base.proofs.Bodies.{union_fits}
use Rattle.fact_base.proofs.BuilderLaws.{gathered_with_body, union_commutes, with_nothing}
use Rattle.fact_base.proofs.base_builder.BaseBuilder.into_base.Goals as goal

pub returns-then-is_empty-2 : goal.returns-then-is_empty-2
unfolding set_of
returns-then-is_empty-2 c =
    let inside = c.self.inside in
    let first = sym c.is_empty.ensures ∙ c.if-is_empty.true in
    let second = sym c.is_empty-then-is_empty.ensures ∙ c.if-is_empty-2.true in
    let no_facts : length inside.facts.items ≡ 0 = grind (arith, nat_tests) in
    let no_references : length inside.references.items ≡ 0 = grind (arith, nat_tests) in
    let facts = nil_from_length inside.facts.items no_facts in
    let references = nil_from_length inside.references.items no_references in
    ap (λ (b : Body). let x : Contents = record { sheet = inside.base.sheet; body = b } in x) (with_nothing inside.base.body c.sheet-sheet.ensures.fits.rises ∙ (λ i. union inside.base.body (gathered (sym facts i) (sym references i)))) ∙ c.self.view_is

pub of-requires : goal.of-requires
of-requires c =
    let inside = c.self.inside in
    let listed = gathered_with_body inside.base.body inside.facts.items c.append_to.new.facts.items inside.references.items c.append_to.new.references.items c.sheet-sheet.ensures.fits.rises
    c.in_ok-append_to.ensures.facts c.in_ok-append_to.ensures.references in
    subst (λ s. Fits s (gathered c.append_to.new.facts.items c.append_to.new.references.items)) (sym c.sheet-sheet.ensures.sheet)
    (subst (Fits inside.base.sheet) (sym listed) (union_fits inside.base.sheet (gathered inside.facts.items inside.references.items) inside.base.body c.self.invariant c.sheet-sheet.ensures.fits))

pub returns-then-fact_count-len : goal.returns-then-fact_count-len
returns-then-fact_count-len c =
    let inside = c.self.inside in
    let listed = gathered_with_body inside.base.body inside.facts.items c.append_to.new.facts.items inside.references.items c.append_to.new.references.items c.sheet-sheet.ensures.fits.rises
    c.in_ok-append_to.ensures.facts c.in_ok-append_to.ensures.references in
    let same : ◌≡◌ {A = Contents} (record { sheet = c.sheet-sheet.result.now; body = gathered c.append_to.new.facts.items c.append_to.new.references.items }) (record { sheet = inside.base.sheet; body = _ }) =
    λ i. record { sheet = c.sheet-sheet.ensures.sheet i; body = (listed ∙ union_commutes (gathered inside.facts.items inside.references.items) inside.base.body) i } in
    IfOk-weaker c.of.result _ _ (λ base is. is ∙ same ∙ c.self.view_is) c.of.ensures
