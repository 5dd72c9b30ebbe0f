use Rattle.fact_base.proofs.Shared.{◌<◌, ◌≤◌, subst, take_all, All}
use Rattle.fact_base.proofs.EntryFacts.{HasRow, rows_there}
use Rattle.fact_base.proofs.Walks.{row_passed}
use Rattle.fact_base.proofs.entries.has_all_rows.Goals as goal

pub loop-index-preserved : goal.loop-index-preserved
loop-index-preserved c =
    let within = subst (λ n. c.loop-index.index < n) c.len-index-end.ensures.count c.loop-index-test.true in
    row_passed (HasRow c.args.entries.now) c.args.others.now c.loop-index.index within (c.has_row_at.ensures c.if-not-has_row_at.false) c.loop-index.invariant

pub returns : goal.returns
returns c =
    let past = subst (λ n. n ≤ c.loop-index.index) c.len-index-end.ensures.count c.loop-index-test.false in
    λ _. rows_there c.args.entries.now c.args.others.now (subst (All (HasRow c.args.entries.now)) (take_all c.loop-index.index c.args.others.now past) c.loop-index.invariant)
