use Rattle.oim_write.proofs.Shared.{sym, nat_list_eq_equiv, sorted_once, text_cmp_exact, text_cmp_total}
use Rattle.std.proofs.lemmas.List.Filters.{dedup_is}
use Rattle.std.proofs.lemmas.Map.Text.{is_eq-slice_cmp}
use Rattle.oim_write.proofs.uri_set.put_in_order.Goals as goal

pub returns : goal.returns
returns c = sorted_once text_cmp_total text_cmp_exact nat_list_eq_equiv (λ x y. sym (is_eq-slice_cmp x y)) c.args.texts.now.items c.sort_unstable.new.self.items c.dedup.new.self.items c.sort_unstable.ensures.permutation c.sort_unstable.ensures.sorted (dedup_is _ _ _ c.dedup.ensures.filtered)
