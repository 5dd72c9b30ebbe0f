use Rattle.merge_laws.proofs.Shared.{◌≡◌, ◌+◌, ◌≤◌, vec_len, vec_capacity, reverse, AllByRecursion, first_index, inserted}
use Rattle.merge_laws.proofs.Listed.{Listed}
use Rattle.merge_laws.proofs.insertion.append.Given as goal

abbrev pub invariant-loop-index : goal.invariant-loop-index
invariant-loop-index g l = record {
  listed : Listed l.first l.top (inserted l.initial.items.items (reverse l.initial.news.items)) l.news.items l.items.items l.order.items;
  low : l.first ≤ l.top;
  least : AllByRecursion (λ n. first_index (vec_len l.initial.items) l.initial.news.items ≤ n.0) l.news.items;
  together : vec_len l.items + vec_len l.news ≡ vec_len l.initial.items + vec_len l.initial.news;
  below : l.top ≤ vec_len l.initial.items;
  count : vec_len l.order + l.top ≡ vec_len l.items;
  storage : vec_capacity l.order ≡ vec_capacity l.initial.order;
  kept : vec_capacity l.items ≡ vec_capacity l.initial.items;
}

abbrev pub decreases-loop-index : goal.decreases-loop-index
decreases-loop-index g l = vec_len l.news
