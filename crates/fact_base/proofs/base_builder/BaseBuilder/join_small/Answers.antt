use Rattle.fact_base.proofs.Shared.{◌≡◌, ℕ, List, [], ◌++◌, sym, ap, subst, ◌∙◌, Fact, on_ok_weaker, Body, gathered, union, IsBody, Contents, Fits}
use Rattle.fact_base.proofs.BuilderLaws.{gathered_body}
use Rattle.fact_base.proofs.base_builder.BaseBuilder.join_small.Goals as goal

copied : (b : Body) (facts none : List Fact) (references nothing : List (List ℕ)) → IsBody b → none ≡ [] → nothing ≡ [] → facts ≡ none ++ b.facts → references ≡ nothing ++ b.references → gathered facts references ≡ b
copied b facts none references nothing rises n m p q = (λ i. gathered ((p ∙ ap (λ fs. fs ++ b.facts) n) i) ((q ∙ ap (λ rs. rs ++ b.references) m) i)) ∙ gathered_body b rises

pub append-requires : goal.append-requires
append-requires c =
    let sheet = c.requires ∙ ap (λ (b : Contents). b.sheet) (sym c.in_ok-empty_lists.ensures) in
    subst (λ s. Fits s (gathered c.append_to.new.facts.items c.append_to.new.references.items)) sheet (subst (Fits c.args.other.now.sheet) (sym (copied c.args.other.now.body c.append_to.new.facts.items c.new-facts.result.items c.append_to.new.references.items c.new-references.result.items c.sheet-sheet.ensures.fits.rises c.new-facts.ensures.items c.new-references.ensures.items c.in_ok-append_to.ensures.facts c.in_ok-append_to.ensures.references)) c.sheet-sheet.ensures.fits)

pub returns : goal.returns
returns c = on_ok_weaker c.append.result (λ with.
    with
    ∙ ap (λ (b : Contents). let x : Contents = record { sheet = b.sheet; body = union b.body (gathered c.append_to.new.facts.items c.append_to.new.references.items) } in x) c.in_ok-empty_lists.ensures
    ∙ ap (λ (b : Body). let x : Contents = record { sheet = c.args.self.now.sheet; body = union c.args.self.now.body b } in x) (copied c.args.other.now.body c.append_to.new.facts.items c.new-facts.result.items c.append_to.new.references.items c.new-references.result.items c.sheet-sheet.ensures.fits.rises c.new-facts.ensures.items c.new-references.ensures.items c.in_ok-append_to.ensures.facts c.in_ok-append_to.ensures.references))
    c.append.ensures.ok
