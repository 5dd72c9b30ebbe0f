use Rattle.std.proofs.lemmas.List.Sorted.{IsPermutation-trans}
use Rattle.oim_dims.proofs.unit_text.sort.Goals as goal

pub returns-clause-permutation : goal.returns-clause-permutation
returns-clause-permutation c = IsPermutation-trans _ _ _ c.sort_unstable_by.ensures.permutation c.in_ok-sort.ensures.permutation
