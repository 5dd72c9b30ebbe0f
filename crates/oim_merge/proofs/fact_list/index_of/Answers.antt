use Rattle.oim_merge.proofs.Shared.{rules, sym, IsPartitionPoint-from_clause}
use Rattle.oim_merge.proofs.IndexedFacts.{comes_before, lent_parted, found_index_is_own, index_is_point}
use Rattle.oim_merge.proofs.fact_list.index_of.Goals as goal

pub returns-then-is_at : goal.returns-then-is_at
returns-then-is_at c = sym (found_index_is_own c.args.fact.now c.args.facts.now c.args.guess c.requires c.if-is_at.ensures.within c.if-is_at.ensures.same)

pub returns-then-is_at-2 : goal.returns-then-is_at-2
returns-then-is_at-2 c = sym (found_index_is_own c.args.fact.now c.args.facts.now c.partition_point-likely.result c.requires c.if-is_at-2.ensures.within c.if-is_at-2.ensures.same)

pub returns : goal.returns
returns c =
    let facts = c.args.facts.now in
    let fact = c.args.fact.now in
    let parted = lent_parted fact facts c.requires in
    let point = IsPartitionPoint-from_clause (comes_before fact) facts c.partition_point.result c.partition_point.ensures.partitioned parted (λ a r q k. search rules) in
    sym (index_is_point fact facts c.partition_point.result c.partition_point.ensures.bound point)
