use Rattle.oim_merge.proofs.Shared.{◌≡◌, rules, Bool, EachIndex, List, get_or, not, sym, subst, ℕ, ◌∙◌, is_eq, false≢true, answers_always, fact_cmp, Fact}
use Rattle.oim_merge.proofs.Histories.{Differ, indexed_if_rising, rise_in_place}
use Rattle.oim_merge.proofs.checked.rise.Goals as goal

-- each number of a list is its own index
abbrev Counts : List ℕ → Type 0
Counts numbers = EachIndex numbers (λ k. get_or numbers k 0 ≡ k)

pub returns-then-count_up : goal.returns-then-count_up
returns-then-count_up c =
    let report = c.args.report.now in
    let differ : Fact → Fact → Bool = λ x y. not (is_eq (fact_cmp x y)) in
    let told = c.is_sorted_by.ensures.cases differ (answers_always _ _ _ (λ f a r q k. search rules)) in
    rise_in_place report.document.facts report.order c.known.ensures.order c.is_sorted_by.result
    (subst (λ facts. Differ facts c.is_sorted_by.result) c.facts.ensures told)
    (subst Counts c.order.ensures (c.count_up.ensures.0 c.if-count_up.true))

pub returns-else-count_up : goal.returns-else-count_up
returns-else-count_up c =
    let report = c.args.report.now in (
      λ h. absurd (false≢true (sym c.if-count_up.false ∙ h)),
      λ rises. c.count_up.ensures.1 (subst Counts (sym c.order.ensures) (indexed_if_rising report.document.facts report.order c.known.ensures.order rises)),
    )
