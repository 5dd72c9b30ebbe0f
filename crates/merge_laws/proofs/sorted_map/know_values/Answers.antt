use Rattle.merge_laws.proofs.Shared.{subst, AllByRecursion, take_all}
use Rattle.merge_laws.proofs.Lists.{all_more}
use Rattle.merge_laws.proofs.sorted_map.know_values.Goals as goal

pub loop-entry-preserved : goal.loop-entry-preserved
loop-entry-preserved g c = all_more (λ e. g.V.Merge.is_known e.1) c.args.entries.now c.loop-entry.entry-index c.entry-item.result c.loop-entry-test.true c.entry-item.is c.loop-entry.invariant c.known.ensures

pub returns : goal.returns
returns g c = subst (AllByRecursion (λ e. g.V.Merge.is_known e.1)) (take_all c.loop-entry.entry-index c.args.entries.now c.loop-entry-test.false) c.loop-entry.invariant
