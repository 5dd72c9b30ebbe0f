use Rattle.fact_base.proofs.Shared.{◌≡◌, ◌≤◌, ◌-◌, HoldForUris, rows_left}
use Rattle.fact_base.proofs.rows.Rows.uri_run.Given as goal

-- the first rows have the URI
abbrev pub invariant-loop-count : goal.invariant-loop-count
invariant-loop-count l = record {
  within : l.count ≤ l.left;
  known : HoldForUris (λ u. u ≡ l.uri) l.count (rows_left l.self);
}

abbrev pub decreases-loop-count : goal.decreases-loop-count
decreases-loop-count l = l.left - l.count
