use Rattle.oim_report.proofs.Shared.{rules, ap, is_lt, nat_list_cmp_total, always_returns_same, dedup_same, ranks_by}
use Rattle.oim_report.proofs.NameLists.{in_order, is_before, same_local}
use Rattle.oim_report.proofs.sheet.ranked_names.put_in_order.Goals as goal

pub returns : goal.returns
returns g c =
    let weak = ranks_by nat_list_cmp_total (λ e. e.0.local_part) in
    let compares = always_returns_same _ _ _ (λ a r f called. (ap is_lt (search rules), search rules)) in
    in_order c.args.names.now.items c.sort_by.new.self.items c.dedup_by.new.self.items c.sort_by.ensures.permutation
    (c.in_ok-sort_by.ensures.sorted is_before weak compares)
    (c.sort_by.ensures.stable is_before weak compares)
    (dedup_same _ same_local _ (λ x y b f' x' y' k. search rules) _ _ c.dedup_by.ensures.filtered)
