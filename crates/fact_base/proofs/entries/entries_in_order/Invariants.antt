use Rattle.fact_base.proofs.Shared.{◌≡◌, List, ◌++◌, length, reverse, Fact, AreEntriesOf}
use Rattle.fact_base.proofs.Stored.{ReachedIn}
use Rattle.fact_base.proofs.entries.entries_in_order.Given as goal

abbrev pub invariant-loop-fact : goal.invariant-loop-fact
invariant-loop-fact l = record {
  done : List Fact;
  split : done ++ reverse l.left.items ≡ l.fn.facts.items;
  entries : AreEntriesOf done l.entries.items;
  reached : ReachedIn l.fn.facts.items (length done) l.entries.items;
}

abbrev pub decreases-loop-fact : goal.decreases-loop-fact
decreases-loop-fact l = length l.left.items
