-- The names that several proofs of this crate cite, passed on from one place. Declares nothing.
pub use Rattle.std.proofs.Common.{◌≡◌, ℕ, List, ◌++◌, ap, ◌∙◌, ⊎_elim, Contains, flat_map, [], ◌∷◌, append-nil, sym, subst, inl, inr, arith, ◌↔◌, ◌⊎◌, Bool, Result, Ok, Err, OnOk, IsPermutation, All, Ordering, Equal, Option, Some, None, refl, Any, Less, ◌≢◌, max, slice_get, true, false, cond, not, ◌&&◌, ◌||◌, is_eq, Greater, zero, suc, get_or, map, ◌+◌, ◌<◌, IsSorted, length, is_lt, true≢false, set, HoldsAt, is_gt, append_assoc, length-append, reverse, IfOk, ◌≤◌, IsTrue, is_some, int_lt, ℤ, ◌≤ℤ◌, ◌<ℤ◌, IfSome, option_and_then, unwrap_or, take, drop, ◌*◌, ◌-◌, bytes_eq, option_map, take_all, get_or-drop, get_or-take, length-drop, length-take-le, MatchOption, rules, if◌then◌else◌, option_to_list, option_copied}
pub use Rattle.std.proofs.lemmas.Bool.{false≢true, and_from, and_parts, cases_Bool, and_cases, iff_false, cases_lt}
pub use Rattle.std.proofs.lemmas.Bool.Decides.{same_from_decides, nat_tests}
pub use Rattle.std.proofs.lemmas.Cmp.{upto, nat_list_cmp_total}
pub use Rattle.std.proofs.lemmas.List.{get_or-map, length-map, get_or_default, get_or_at, reverse-append, drop_all, drop_more, take_more, nil_from_length, length_push, reverse-reverse}
pub use Rattle.std.proofs.lemmas.List.Elements.{All-contains, All-from_recursion, Contains-append_left, Contains-append_right, Contains-append_cases, Contains-get_or, recursion_from_All, All-from_get_or, All-tail, All-more}
pub use Rattle.std.proofs.lemmas.List.Folds.{list_all-append, Any-from_list_any}
pub use Rattle.std.proofs.lemmas.List.Kept.{Contains-dedup, Contains-from_dedup, IsStrictlySortedBy-dedup, AllPairs-cons}
pub use Rattle.std.proofs.lemmas.List.Sorted.{Contains-permutation, IsPermutation-sym, All-permutation, IsPermutation-map, IsPermutation-refl, length_permutation, ranks_by}
pub use Rattle.std.proofs.lemmas.Option.{same_Some, slice_get-get_or, none-some, option_and_then_some, get_or_from_slice_get, slice_get-map, slice_get_cases, slice_get_within, unwrap_or-slice_get}
pub use Rattle.std.proofs.lemmas.Result.{IfOk-weaker, on_ok_weaker}
pub use Rattle.std.specs.Cmp.{Equal-is, IsEquivalence, IsTotalOrder, tied_itself}
pub use Rattle.std.specs.Cmp.Lexicographic.{bytes_decides, options_total}
pub use Rattle.std.specs.List.{dedup, AllByRecursion, list_all, range_with_len, list_any, position_or_len}
pub use Rattle.std.specs.Option.{option_cmp}
pub use Rattle.std.specs.Ordering.{eq_by_cmp, ordering_then, ord_max, match_ordering, ordering_reverse}
pub use lib.Pointwise.{pointwise}
pub use Rattle.merge_laws.proofs.Both.{map_tells_entry, map_union_has_both, set_union_has_both, set_with_has_item}
pub use Rattle.merge_laws.proofs.Members.{all_in_turn, all_of_union, summary_of_union, set_is_its_members, summary_of_one, all_by_index}
pub use Rattle.merge_laws.proofs.Rising.{none_rise, one_rises}
pub use Rattle.merge_laws.specs.Ends.{both_summaries, summary_of_all, summary_of, Summarised, TellsAll}
pub use Rattle.merge_laws.specs.Members.{SameMembers}
pub use Rattle.merge_laws.specs.Sorted.{IsSet, IsRising, entry_key, value_at, item_at, itself}
pub use Rattle.merge_laws.specs.Union.{either_or_both, map_union, set_union, merged_entries}
pub use Rattle.oim_dims.proofs.Orders.{fact_cmp_exact, fact_cmp_total, facts_agree, dimensions_cmp_exact, dimensions_cmp_total, dimensions_agree}
pub use Rattle.oim_dims.specs.DimensionSet.{DimensionSet}
pub use Rattle.oim_dims.specs.FactOrder.{fact_cmp, dimensions_cmp}
pub use Rattle.oim_dims.specs.declared.fact.Fact.{Fact}
pub use Rattle.oim_report.proofs.Runs.{first_up, less_from, up_cases}
pub use Rattle.oim_report.proofs.Ties.{equal_dimensions_tie, equal_values_tie, equal_dimensions, level_max_is}
pub use Rattle.oim_report.proofs.ValuesMeet.{values_meet_is_meets}
pub use Rattle.oim_report.specs.Document.{Document}
pub use Rattle.oim_report.specs.Duplicates.{allows, allows_each, allows_values, level_of, values_meet}
pub use Rattle.oim_report.specs.FactFits.{FactFits, ValueFits}
pub use Rattle.oim_report.specs.References.{IsKeptReference}
pub use Rattle.oim_report.specs.Sheet.{Sheet}
pub use Rattle.oim_report.specs.declared.concept_kind.ConceptKind.TheVariants.{Numeric, Text, Name}
pub use Rattle.oim_value.proofs.SeveralMeet.{rising_are_different, crossed_ends_are_apart, different_meet_as_numbers, different_meet_between_ends, each_two_meet_by_members}
pub use Rattle.oim_value.proofs.ValueOrders.{value_cmp_exact, value_cmp_total, values_agree, value_cmp_self}
pub use Rattle.oim_value.specs.Level.{level_cmp, level_entry, levels}
pub use Rattle.oim_value.specs.Meets.{Meets}
pub use Rattle.oim_value.specs.SeveralMeet.{AreApart, AreDifferent, AreNilOrOfKind, EachTwoValuesMeet, MeetBetween, index_of_greatest_low, index_of_least_high, has_low, has_high}
pub use Rattle.oim_value.specs.ValueOrder.{value_cmp, kind_order}
pub use Rattle.oim_value.specs.declared.level.Level.{Level}
pub use Rattle.oim_value.specs.declared.value.Value.{Value}
pub use Rattle.oim_value.specs.declared.value.Value.TheVariants.{Nil, Number, Text as AText, Name as AName}
pub use Rattle.fact_base.specs.Body.{Body, all_facts, all_references, body, text_cmp, union, gathered}
pub use Rattle.fact_base.specs.BodyLaws.{BodyHasWhatDocumentsHave, BodyIgnoresOrder, BodyOfBoth, UnionHasBoth, IsBody}
pub use Rattle.fact_base.specs.Contents.{Contents}
pub use Rattle.fact_base.specs.Entries.{Entry, facts_of_entries, Summed, facts_with, facts_of_entry}
pub use Rattle.fact_base.specs.Fits.{AcceptedFits, IsAccepted, UnionFits, Fits}
pub use Rattle.fact_base.specs.Rows.{values_at, Row, rows_of}
pub use Rattle.fact_base.specs.Sets.{set_of}
pub use Rattle.fact_base.specs.Shown.{row_of, HoldForUris, rows_left}
pub use Rattle.fact_base.specs.Verdict.{each_meet, verdict_of, IsApartPair, IsCommonOf, IsPairOf, IsShownPair, begin_with_numbers, InconsistentIsApart}
pub use Rattle.fact_base.specs.code.Entries.{AreEntriesOf, AreStored, EntryFits, summed_of_both, NoneAbove, summed, with_fact, with_value}
pub use Rattle.fact_base.specs.code.Judged.{AreAlike, AreSummarised, level_at, shared_by}
pub use Rattle.fact_base.specs.declared.verdict.Verdict.TheVariants.{Consistent as IsConsistent, Inconsistent as IsInconsistent, Consistent, Inconsistent}
