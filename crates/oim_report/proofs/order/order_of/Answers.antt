use Rattle.oim_report.proofs.Shared.{ap, rules, is_lt, IsPermutation-trans, index_cmp, always_returns_same}
use Rattle.oim_report.proofs.Indices.{index_cmp_ranks}
use Rattle.oim_report.proofs.order.order_of.Goals as goal

pub returns : goal.returns
returns c =
    record {
      each_once = IsPermutation-trans _ _ _ c.in_ok-order.ensures c.sort_unstable_by.ensures.permutation;
      rising = c.sort_unstable_by.ensures.sorted (λ i j. is_lt (index_cmp c.args.facts.now i j)) (index_cmp_ranks c.args.facts.now) (always_returns_same _ _ _ (λ a r g called. (ap is_lt (search rules), search rules)));
    }
