use Rattle.oim_report.proofs.Shared.{◌≡◌, ◌≤◌, Some, map, take, Fact, dimensions_at}
use Rattle.oim_report.proofs.order.run_starts.Given as goal

abbrev pub invariant-loop-i : goal.invariant-loop-i
invariant-loop-i l = record {
  within : l.first ≤ l.i;
  alike : map (dimensions_at l.facts) l.starts.items ≡ map (λ (f : Fact). Some f.dimensions) (take l.i l.facts);
}
