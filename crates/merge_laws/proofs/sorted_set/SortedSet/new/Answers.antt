use Rattle.merge_laws.proofs.Shared.{sym, subst, ◌∙◌, IsSet, itself}
use Rattle.merge_laws.proofs.Rising.{none_rise}
use Rattle.merge_laws.proofs.sorted_set.SortedSet.new.Goals as goal

pub invariant_of-result : goal.invariant_of-result
invariant_of-result g c = subst (IsSet g.T.Ord.cmp) (sym (c.many.ensures ∙ c.new.ensures.items)) (none_rise g.T.Ord.cmp itself)
