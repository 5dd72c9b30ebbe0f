use Rattle.fact_base.proofs.Shared.{◌<◌, ◌≤◌, refl, sym, subst, ◌∙◌, true≢false}
use Rattle.fact_base.proofs.entries.same_rows.Goals as goal
use Rattle.fact_base.proofs.Walks.{row_differs, rows_all, rows_further}

pub loop-index-init : goal.loop-index-init
loop-index-init c = (sym c.len.ensures.count ∙ c.if-len.false ∙ c.len-2.ensures.count, refl)

pub returns-then-not-same_at : goal.returns-then-not-same_at
returns-then-not-same_at c = (λ h. absurd (true≢false (sym h)), λ h. absurd (row_differs c.args.one.now c.args.other.now c.loop-index.index (λ same. true≢false (sym (c.same_at.ensures.1 same) ∙ c.if-not-same_at.true)) h))

pub loop-index-preserved : goal.loop-index-preserved
loop-index-preserved c =
    let within = subst (λ n. c.loop-index.index < n) c.len-index-end.ensures.count c.loop-index-test.true in
    (c.loop-index.invariant.0, rows_further c.args.one.now c.args.other.now c.loop-index.index c.loop-index.invariant.0 within (c.same_at.ensures.0 c.if-not-same_at.false) c.loop-index.invariant.1)

pub returns : goal.returns
returns c =
    let past = subst (λ n. n ≤ c.loop-index.index) c.len-index-end.ensures.count c.loop-index-test.false in
    (λ _. rows_all c.args.one.now c.args.other.now c.loop-index.index c.loop-index.invariant.0 past c.loop-index.invariant.1, λ _. refl)
