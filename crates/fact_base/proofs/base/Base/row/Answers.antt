use Rattle.fact_base.proofs.Shared.{◌≡◌, [], None, Some, sym, ap, subst, ◌∙◌, MatchOption, option_copied, value_at, dimensions_cmp, Contents, values_at, AreSummarised}
use Rattle.fact_base.proofs.Stored.{value_at_is}
use Rattle.fact_base.proofs.Walks.{found_entry, values_found}
use Rattle.fact_base.proofs.base.Base.row.Goals as goal

pub returns-in_err-values : goal.returns-in_err-values
returns-in_err-values c =
    let facts = c.args.self.now.body.facts in
    let none : value_at dimensions_cmp c.args.dimensions.now c.self.inside.entries ≡ None = sym (value_at_is c.args.dimensions.now c.self.inside.entries) ∙ sym c.get.ensures ∙ ap option_copied c.in_err-values.was in
    let values = values_found c.self.inside.sheet.now c.self.inside.entries c.self.inside.references c.args.dimensions.now None c.self.invariant none in
    subst (λ row. MatchOption row (values_at c.args.dimensions.now facts ≡ []) (λ row. row.values.now ≡ values_at c.args.dimensions.now facts)) (sym c.from_residual.ensures)
    (sym (ap (λ (b : Contents). values_at c.args.dimensions.now b.body.facts) c.self.view_is) ∙ values)

pub invariant_of-result : goal.invariant_of-result
invariant_of-result c =
    let some : value_at dimensions_cmp c.args.dimensions.now c.self.inside.entries ≡ Some c.in_ok-values.field-0.now = sym (value_at_is c.args.dimensions.now c.self.inside.entries) ∙ sym c.get.ensures ∙ ap option_copied c.in_ok-values.was in
    record { summed = subst (λ vs. AreSummarised vs c.in_ok-values.field-0.now.1) (sym c.as_slice.ensures.items) (found_entry c.self.inside.sheet.now c.self.inside.entries c.self.inside.references c.args.dimensions.now c.in_ok-values.field-0.now c.self.invariant some) }

pub returns : goal.returns
returns c =
    let some : value_at dimensions_cmp c.args.dimensions.now c.self.inside.entries ≡ Some c.in_ok-values.field-0.now = sym (value_at_is c.args.dimensions.now c.self.inside.entries) ∙ sym c.get.ensures ∙ ap option_copied c.in_ok-values.was in
    let values = values_found c.self.inside.sheet.now c.self.inside.entries c.self.inside.references c.args.dimensions.now (Some c.in_ok-values.field-0.now) c.self.invariant some in
    c.as_slice.ensures.items ∙ sym values ∙ ap (λ (b : Contents). values_at c.args.dimensions.now b.body.facts) c.self.view_is
