-- The names that several proofs of this crate cite, passed on from one place. Declares nothing.
pub use Rattle.std.proofs.Common.{◌≡◌, Bool, true, false, cond, List, [], ◌∷◌, Option, Some, None, refl, sym, ap, ◌∙◌, inl, inr, ⊎_elim, ℕ, zero, suc, ◌<◌, length, get_or, subst, arith, ◌||◌, true≢false, Contains, is_some, unwrap_or, option_map, is_eq, Ordering, Equal, ◌+◌, not, ◌++◌, set, take, drop, Result, Ok, Err, Less, Greater, is_lt, insert, IfSome, ◌≤◌, ◌-◌, All, IsPermutation, append-nil, append_assoc, map, min, reverse, ext_get_or, get_or-append-add, get_or-drop, length-append, length-drop, length-take, take-append-drop, flat_map, IsTrue, OnOk, OnErr, ◌≢◌, ◌==◌, swap, eqb, get_or-set_other, eq-eqb, ne_eqb, lt_trans, get_or-take, length-set, length-take-le, rules, vec_len, vec_capacity, take_all}
pub use Rattle.std.proofs.Permutation.{every_append}
pub use Rattle.std.proofs.lemmas.Bool.{or_cases, or_left, or_right, cases_lt}
pub use Rattle.std.proofs.lemmas.Grind.{flat_map-append}
pub use Rattle.std.proofs.lemmas.List.{get_or_default, get_or_append_left, get_or-map, length-map, map-append, reverse-append, take-append-le, reverse-reverse, take_more, set-get_or, length_push, nil_from_length}
pub use Rattle.std.proofs.lemmas.List.Elements.{All-from_get_or, All-from_recursion, recursion_from_All}
pub use Rattle.std.proofs.lemmas.List.Folds.{find-append}
pub use Rattle.std.proofs.lemmas.List.FromFn.{get_or-map-range_with_len, get_or-range_with_len, length-map-range_with_len, length-range_with_len}
pub use Rattle.std.proofs.lemmas.List.Sorted.{searchable_from_sorted, All-permutation, IsPermutation-append_right, IsPermutation-cons, IsPermutation-refl, IsPermutation-to_front, IsPermutation-trans, IsPermutation-swap, length_permutation}
pub use Rattle.std.proofs.lemmas.Map.Keys.{Less-from_sorted, IsDistinct-IsPermutation, IsDistinct-from_apart, apart_from_distinct}
pub use Rattle.std.proofs.lemmas.Result.{on_ok_weaker}
pub use Rattle.std.specs.Cmp.{IsTotalOrder, Equal-is, eq_by_cmp_equiv, tied_itself, tied_back, alike_right, both_ways}
pub use Rattle.std.specs.List.{list_any, AllWithin, AllByRecursion, range_with_len, IsDistinct}
pub use Rattle.std.specs.Option.{option_or}
pub use Rattle.std.specs.Ordering.{eq_by_cmp, match_ordering, ordering_index, ordering_reverse}
pub use Rattle.oim_value.proofs.Ends.{ends_of_one, ends_of_more}
pub use Rattle.oim_value.specs.Interval.{common_part, interval}
pub use Rattle.oim_value.specs.declared.value.Value.{Value}
pub use Rattle.merge_laws.specs.Ends.{summary_of_all, SummaryTellsAll, Summarised, summary_of, both_summaries}
pub use Rattle.merge_laws.specs.Picked.{picked}
pub use Rattle.merge_laws.specs.Sorted.{IsSet, item_at, has_key, itself, entry_key, value_at, IsRising, IsMap}
pub use Rattle.merge_laws.specs.Union.{either_or_both, older, merged_entries, set_with, set_union, IsSetOfBoth, SetUnionHasBoth, SetWithHasItem, MapTellsEntry, MapUnionHasBoth, MapWithMerges, SetTellsItem, with_item, map_with, map_union}
pub use Rattle.merge_laws.specs.code.Insertions.{found_at, new_item, new_value, shared_value, index_of, inserted, IsFirstLeast, new_items, new_values, with_values, with_value, first_index}
pub use Rattle.merge_laws.specs.code.Items.{alone, rises_with, rises_union, item_at-with, item_at-union, Below, below_less, none_below, turned_less, turned_greater, same_items, none_tied, same_found}
pub use Rattle.merge_laws.specs.code.UnionLaws.{all_with, set_closed, map_closed, map_commutes}
