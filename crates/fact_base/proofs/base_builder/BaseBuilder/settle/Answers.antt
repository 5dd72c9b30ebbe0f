use Rattle.fact_base.proofs.Shared.{refl, sym, ap, subst, ◌∙◌, Body, union, Contents, Fits}
use Rattle.fact_base.proofs.BuilderLaws.{derived_gathered}
use Rattle.fact_base.proofs.base_builder.BaseBuilder.settle.Goals as goal

pub invariant_of-self-2 : goal.invariant_of-self-2
invariant_of-self-2 c = subst (Fits c.self.inside.base.sheet) (sym (derived_gathered _ _ _ _ c.settle.ensures c.settle-2.ensures)) c.self.invariant

pub returns : goal.returns
returns c =
    let base = c.self.inside.base in
    ap (λ (b : Body). let x : Contents = record { sheet = base.sheet; body = union base.body b } in x) (derived_gathered _ _ _ _ c.settle.ensures c.settle-2.ensures) ∙ c.self.view_is

pub invariant_of-self : goal.invariant_of-self
invariant_of-self c = subst (Fits c.self.inside.base.sheet) (sym (derived_gathered _ _ _ c.self.inside.references.items c.settle.ensures refl)) c.self.invariant

pub returns-in_err-settle : goal.returns-in_err-settle
returns-in_err-settle c =
    let base = c.self.inside.base in
    ap (λ (b : Body). let x : Contents = record { sheet = base.sheet; body = union base.body b } in x) (derived_gathered _ _ _ c.self.inside.references.items c.settle.ensures refl) ∙ c.self.view_is
