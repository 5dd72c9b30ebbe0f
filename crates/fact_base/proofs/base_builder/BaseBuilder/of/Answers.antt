use Rattle.fact_base.proofs.Shared.{ℕ, List, [], sym, ap, subst, ◌∙◌, Fact, Body, gathered, union, Contents, Fits}
use Rattle.fact_base.proofs.BuilderLaws.{nothing_fits, with_nothing}
use Rattle.fact_base.proofs.base_builder.BaseBuilder.of.Goals as goal

pub invariant_of-result : goal.invariant_of-result
invariant_of-result c =
    subst (λ (fs : List Fact). Fits c.args.base.sheet (gathered fs c.new-2.result.items)) (sym c.new.ensures.items)
    (subst (λ (rs : List (List ℕ)). Fits c.args.base.sheet (gathered [] rs)) (sym c.new-2.ensures.items) (nothing_fits c.args.base.sheet))

pub returns : goal.returns
returns c =
    let base = c.args.base in
    ap (λ (b : Body). let x : Contents = record { sheet = base.sheet; body = b } in x)
    ((λ i. union base.body (gathered (c.new.ensures.items i) (c.new-2.ensures.items i))) ∙ sym (with_nothing base.body c.sheet-sheet.ensures.fits.rises))
