use Rattle.oim_merge.proofs.Shared.{◌≡◌, sym, ap, ◌∙◌, Equal-is, HoldsAt, OnTrue_from, value_cmp_exact, value_cmp, lent}
use Rattle.oim_report.proofs.Ties.{equal_dimensions, equal_values_tie}
use Rattle.oim_merge.proofs.fact_list.is_at.Goals as goal

pub returns-then-eq-clause-same : goal.returns-then-eq-clause-same
returns-then-eq-clause-same c =
    let facts = c.args.facts.now in
    let fact = c.args.fact.now in
    let one = c.in-Some.one.now in
    let dimensions : one.dimensions.now ≡ fact.dimensions = equal_dimensions one.dimensions.now fact.dimensions (sym c.eq.ensures ∙ c.if-eq.true) in
    OnTrue_from c.eq-then-eq.result (HoldsAt (λ g. lent g ≡ fact) facts c.args.index) (λ same.
    let value : one.value.now ≡ fact.value = value_cmp_exact one.value.now fact.value ((Equal-is (value_cmp one.value.now fact.value)).0 (sym (equal_values_tie one.value.now fact.value) ∙ sym c.eq-then-eq.ensures ∙ same)) in
    λ d. ap lent (sym (c.in-Some.ensures.lookup.3.1 d)) ∙ (λ i. record { dimensions = dimensions i; value = value i }))
