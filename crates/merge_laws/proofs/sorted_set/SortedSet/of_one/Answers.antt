use Rattle.merge_laws.proofs.Shared.{sym, subst, IsSet, itself}
use Rattle.merge_laws.proofs.Rising.{one_rises}
use Rattle.merge_laws.proofs.sorted_set.SortedSet.of_one.Goals as goal

pub invariant_of-result : goal.invariant_of-result
invariant_of-result g c = subst (IsSet g.T.Ord.cmp) (sym c.one.ensures) (one_rises g.T.Ord.cmp itself c.args.item)
