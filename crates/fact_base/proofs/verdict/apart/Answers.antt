use Rattle.fact_base.proofs.Shared.{◌≡◌, Some, false, sym, subst, ◌∙◌, index_of_least_high, IsApartPair}
use Rattle.fact_base.proofs.verdict.apart.Goals as goal
use Rattle.fact_base.proofs.Summaries.{crossed_are_apart, nil_is_apart, no_number_is_apart}

pub returns-in-Some : goal.returns-in-Some
returns-in-Some c =
    let ends : c.args.summary.now.ends ≡ Some c.in-Some.ends = sym c.ends.ensures ∙ c.in-Some.is in
    let no_nil : c.args.summary.now.nil ≡ false = sym c.nil.ensures ∙ c.if-not-nil.true in
    let apart = crossed_are_apart c.args.values.now c.args.summary.now c.requires.summed c.requires.several c.in-Some.ends ends no_nil c.requires.apart in
    subst (λ i. IsApartPair c.args.values.now i c.first_low.result) (sym c.first_high.ensures)
    (subst (λ j. IsApartPair c.args.values.now (index_of_least_high c.in-Some.ends c.args.values.now) j) (sym c.first_low.ensures) apart)

pub returns-in_default : goal.returns-in_default
returns-in_default c = nil_is_apart c.args.values.now c.args.summary.now c.requires.summed c.requires.several (sym c.nil.ensures ∙ c.if-not-nil.false)

pub returns-in_default-2 : goal.returns-in_default-2
returns-in_default-2 c = no_number_is_apart c.args.values.now c.args.summary.now c.requires.summed c.requires.several (sym c.ends.ensures ∙ c.in_default.is)
