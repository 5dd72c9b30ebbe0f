use Rattle.oim_write.proofs.Shared.{ℕ, ◌+◌, List, Bool, sym, ap, subst, ◌∙◌, rules, IsPartitionedBy, nat_cmp, is_lt, slice_cmp, nat_list_cmp_total, IsPartitionPoint-from_clause, rank}
use Rattle.std.proofs.Common.{one-add}
use Rattle.oim_write.proofs.Ranks.{count_at, parted}
use Rattle.oim_write.proofs.prefix_table.PrefixTable.rank.Goals as goal

pub returns : goal.returns
returns c =
    let smaller : List ℕ → Bool = λ known. is_lt (slice_cmp nat_cmp known c.args.uri.now) in
    let rises = subst (IsPartitionedBy smaller) (sym c.deref.ensures.value) (parted nat_list_cmp_total c.self.inside.uris.items c.args.uri.now c.self.invariant.rises) in
    let point = IsPartitionPoint-from_clause smaller _ _ c.partition_point.ensures.partitioned rises (λ a r q k. search rules) in
    let index = count_at smaller c.deref.result.now c.partition_point.result c.partition_point.ensures.bound point in
    ap (λ n. 1 + n) (sym index) ∙ (one-add _ ∙ ap (rank (slice_cmp nat_cmp) c.args.uri.now) (c.deref.ensures.value ∙ c.self.view_is))
