-- The names that several proofs of this crate cite, passed on from one place. Declares nothing.
pub use Rattle.std.proofs.Common.{◌≡◌, List, Option, Some, None, Ok, refl, ap, ◌∙◌, option_and_then, option_map, ℕ, ◌+◌, [], ◌∷◌, map as each_of, Result, Err, sym, subst, arith, All, filter, find, true, not, ◌&&◌, bytes_eq, codes, ◌-◌, ◌<◌, ◌≤◌, ◌++◌, length, get_or, take, drop, Bool, false, ◌==◌, cond, length-append, IsUtf8, eqb-true, take_all, inl, inr, map, slice_get, Bor, MatchOption, HoldsAt, unwrap_or, Ordering, Less, Equal, Greater, suc, ◌||◌, ◌≢◌, ◌⊎◌, ◌↔◌, if◌then◌else◌, is_none, is_some, nat_lt, IfOk, IfErr, IsTrue, is_lt, append_assoc, append-nil, Global, String, string_bytes, string_cmp, filter_map, rules, ℤ, nat_cmp, int_lt, int_eq, option_to_list, flat_map, IfSome, OnOk, OnErr, is_eq, drop-cons, IsPermutation, IsSorted, is_gt, fold, zero, true≢false, encode_utf8, replicate, nat_eq, ⊎_elim, slice_index, Contains, insert, add-one, Any, Vec, BTreeMap, AllPairs, Decides, is_le, ne_eqb, get_or-take, length-take-le, take-append-drop, pos, negsuc, unsigned_abs, leb-true, T, IsSome, ltb-true, string_eq, slice_range, IsCharBoundary, ◌≤ℤ◌, int_le, zip, IsAscii, ◌*◌, option_copied, ◌/◌, vec_len, vec_capacity}
pub use Rattle.std.proofs.Math.Bool.{or-false, or-true, and-false, and-true}
pub use Rattle.std.proofs.Math.Seq.{take-append_seam, get_or-append_seam, drop-append_seam}
pub use Rattle.std.proofs.lemmas.Bool.{and_parts, cases_lt, or_parts, or_from, false≢true, and_left, and_right, not-true, or_cases, cases_Bool, cond-true, and_from, not-false, cases_order, cond_below, cond-false, cond_both, or_right, false_from_ne_true}
pub use Rattle.std.proofs.lemmas.Bool.Decides.{nat_tests, Decides-by_and}
pub use Rattle.std.proofs.lemmas.Cmp.{nat_list_cmp_total, nat_eq_equiv, then_total}
pub use Rattle.std.proofs.lemmas.Fn.{always_returns_same, dedup_same}
pub use Rattle.std.proofs.lemmas.List.{drop_all, map-append, take_more, drop_more, length-map, append_cancel_right, drop-append-le, take-append-le, get_or_default, get_or_append_left, get_or-append_right, get_or-map}
pub use Rattle.std.proofs.lemmas.List.Elements.{All-cons, All-head, All-tail, All-from_get_or, All-contains, filter_passes, All-nil, All-contains_itself, All-from_recursion, filter-append, recursion_from_All, All-take, filter_map-append, All-weaker}
pub use Rattle.std.proofs.lemmas.List.Folds.{list_all-append, list_any-append, find-append}
pub use Rattle.std.proofs.lemmas.List.FromFn.{fill_by_all, length-range_with_len, get_or-range_with_len}
pub use Rattle.std.proofs.lemmas.List.Kept.{IsStrictlyIncreasing-filter, IsStrictlySortedBy-dedup, AllPairs-cons}
pub use Rattle.std.proofs.lemmas.List.Sorted.{All-permutation, IsPermutation-map, length_permutation, ranks_by, Contains-permutation, IsPermutation-sym, IsPermutation-refl, IsPermutation-cons, IsPermutation-insert, IsPermutation-trans}
pub use Rattle.std.proofs.lemmas.List.Sums.{passes_at_first, prefix_len-le-length}
pub use Rattle.std.proofs.lemmas.Map.Keys.{sorted_head, sorted_tail, IsDistinct-from_apart, apart_from_distinct, IsDistinct-IsPermutation, Less-from_sorted}
pub use Rattle.std.proofs.lemmas.Map.Lookups.{exact_bytes}
pub use Rattle.std.proofs.lemmas.Map.Text.{btree_map_updates_text, is_eq-slice_cmp, hash_map_updates_text}
pub use Rattle.std.proofs.lemmas.Option.{slice_get-get_or, slice_get-map, slice_get_past, get_or_from_slice_get, slice_get_within, same_Some, cond_some, slice_get_read}
pub use Rattle.std.proofs.lemmas.Result.{on_ok_weaker, IfOk-weaker, err_from_is_err_and, IfOk-equal, IfErr-weaker}
pub use Rattle.std.proofs.lemmas.Slice.Eq.{bytes_eq-Decides}
pub use Rattle.std.proofs.lemmas.Str.{IsUtf8-take, IsUtf8-drop, IsUtf8-between, IsUtf8-nil, IsCharBoundary-before_ascii, IsCharBoundary-after_ascii, IsUtf8-from_is_utf8, is_utf8-from_IsUtf8, IsUtf8-append, IsUtf8-encode, IsCharBoundary-at_seam, IsUtf8-from_ascii}
pub use Rattle.std.specs.BTreeMap.{insert_entry, IsEmpty, IsOrdered, Updates, UpdatesBy, get_by_text}
pub use Rattle.std.specs.Char.{is_digit, is_ascii_digit, is_ascii_alphanumeric}
pub use Rattle.std.specs.Cmp.{tied_itself, Equal-is, eq_by_cmp_equiv, IsStrictWeakOrder, IsTotalOrder, on_total, both_ways, tied_back, nat_cmp_total, alike_right}
pub use Rattle.std.specs.Cmp.Lexicographic.{slice_cmp, options_total, bytes_decides}
pub use Rattle.std.specs.FinMap.{FinMap, get-insert, len-empty, len-insert, get-empty}
pub use Rattle.std.specs.Int.{int_max, int_min, is_in_range}
pub use Rattle.std.specs.List.{AllZip, list_any, after_first, before_first, join_with_byte, position_or_len, AllByRecursion, cons_option, range_with_len, list_all, prefix_len, starts_with, dedup, dedup_from, IsDistinct, AllWithin, slice_split, onto_first}
pub use Rattle.std.specs.List.Sorted.{IsStrictlySortedBy, IsStrictlyIncreasing}
pub use Rattle.std.specs.Map.{keys_of, values_of, lookup, remove_entry, update}
pub use Rattle.std.specs.Option.{option_cmp, option_map_or, option_flatten, option_eq, option_or}
pub use Rattle.std.specs.Ordering.{ordering_then, match_ordering, eq_by_cmp, ordering_reverse, ord_max, partial_lt}
pub use Rattle.std.specs.Prelude.{⊤}
pub use Rattle.std.specs.Result.{result_ok, result_err}
pub use Rattle.std.specs.Str.{str_to_ascii_lowercase, is_utf8}
pub use Rattle.std.specs.Str.Pattern.{GetsRange}
pub use denote.Shadow.{shadow}
pub use denote.Text.{Utf8}
pub use Rattle.json.proofs.Printed.Trees.{value-json_tokens, ArePrintable-json_tokens}
pub use Rattle.json.proofs.Printed.Utf8.{IsUtf8-are_ascii, IsUtf8-quoted, IsUtf8-boolean}
pub use Rattle.json.proofs.Unique.Spelling.{value-json_tokens_back}
pub use Rattle.json.specs.Align.{is_good}
pub use Rattle.json.specs.Find.{BeginsWith, InItems, NextItem, InMembers, as_bool, as_number, as_str, is_null}
pub use Rattle.json.specs.Json.{value, Json, if_last, document}
pub use Rattle.json.specs.Lex.{tokens}
pub use Rattle.json.specs.Token.{Token}
pub use Rattle.json.specs.Tree.{json_tokens, items_tokens, members_tokens, depth, members_depth, items_depth}
pub use Rattle.json.specs.Word.{is_operator, is_space, word}
pub use Rattle.oim_dims.proofs.FirstFound.{some_found}
pub use Rattle.oim_dims.proofs.Indices.{less_is, members_grow, names_are_there, old_or_new, old_is_kept, new_is_there}
pub use Rattle.oim_dims.proofs.OneUnit.{one_unit, none_sorted, not_refused}
pub use Rattle.oim_dims.proofs.Orders.{dimensions_cmp_total, fact_cmp_total, fact_cmp_exact, dimensions_agree, dimensions_cmp_exact, facts_agree}
pub use Rattle.oim_dims.specs.DateTime.{moment_of}
pub use Rattle.oim_dims.specs.DimensionSet.{DimensionSet, IsDimensionSet, with_member, is_below, rises, has_name, repeats}
pub use Rattle.oim_dims.specs.FactOrder.{dimensions_cmp, fact_cmp, unit_cmp}
pub use Rattle.oim_dims.specs.Language.{is_language, is_hyphen, is_group}
pub use Rattle.oim_dims.specs.Period.{period_of, IsPeriod, end_part, from_to, start_part, period_text, HasMoments, EndsAfterStart}
pub use Rattle.oim_dims.specs.Separators.{is_slash}
pub use Rattle.oim_dims.specs.Unit.{Measures, denominator_pieces, is_unit_text, numerator_pieces, IsUnit, UnitOf, IsMeasure, HasMeasures, Spells, SpellsEach, is_mark, is_piece, unit_text, pure_name, pure_alone, unit_refusal}
pub use Rattle.oim_dims.specs.contracts.dimensions.DimensionsPartialEq.TheImpl.{eq-value as dimensions_eq}
pub use Rattle.oim_dims.specs.declared.fact.Fact.{Fact}
pub use Rattle.oim_dims.specs.declared.member.Member.{Member}
pub use Rattle.oim_dims.specs.declared.member.Member.TheVariants.{Nil as NoMember, Text as MemberText, Name as MemberName}
pub use Rattle.oim_dims.specs.declared.period.Period.{Period}
pub use Rattle.oim_dims.specs.declared.period.Period.TheVariants.{Forever, Instant, Duration}
pub use Rattle.oim_names.proofs.Bytes.{other_bytes, same_bytes, bytes_eq-refl, bytes_not_eq}
pub use Rattle.oim_names.proofs.Refusals.{kept_named, named_kept, names_one}
pub use Rattle.oim_names.proofs.Spelling.{filled_number, prefix_part-spelled, local_part-spelled, filled}
pub use Rattle.oim_names.specs.Bindings.{Binding, is_refused_binding, uri_of, bound}
pub use Rattle.oim_names.specs.Expansion.{Expands, ExpandsAs, Spelled, a_name, an_entity, refusal_as, reserved_uri, ExpandsEntity, is_reserved, is_unbound, refuses, name_refusal, entity_refusal}
pub use Rattle.oim_names.specs.QName.{is_colon, name_cmp, is_part, QName, is_name, is_entity, local_part, prefix_part, exact_name, is_name_byte}
pub use Rattle.oim_names.specs.contracts.name.NameOrd.TheImpl.Laws.{total-law as name_total}
pub use Rattle.oim_names.specs.declared.reason.Reason.{Reason}
pub use Rattle.oim_names.specs.declared.reason.Reason.TheVariants.{MemberForm, UnknownMember, DocumentType, Namespace, BaseUrl, TaxonomyUrl, Feature, Links, Notes, DimensionsMissing, NameForm, UnboundPrefix, ReservedNamespace, MissingConcept, UnknownConcept, UnknownDimension, DimensionValue, PeriodForm, PeriodOrder, UnitForm, UnitOnOther, LanguageForm, LanguageOnNumeric, ValueForm, NumberForm, NumberDigits, DecimalsForm, DecimalsRange, DecimalsOnOther, OutOfMemory, DisallowedDuplicates, NotJson, SheetKind}
pub use Rattle.oim_value.proofs.Denoted.{short_denotes, short_numbers_denote, denotes_units}
pub use Rattle.oim_value.proofs.Members.{later_there, first_or_later, first_there, none_there, some_later, some_first}
pub use Rattle.oim_value.proofs.ShortLaws.{short_is_kept, denotes_one, plain_reads_back}
pub use Rattle.oim_value.proofs.ValueOrders.{value_cmp_exact, value_cmp_total, value_cmp_self, values_agree}
pub use Rattle.oim_value.specs.Decimals.{is_finite_decimals, AreDecimals}
pub use Rattle.oim_value.specs.Level.{level_with, level_cmp}
pub use Rattle.oim_value.specs.Number.{is_number, is_short, IsShort, number_refusal, Denotes}
pub use Rattle.oim_value.specs.Units.{units_of}
pub use Rattle.oim_value.specs.ValueOrder.{value_cmp}
pub use Rattle.oim_value.specs.contracts.value.ValueOrd.TheImpl.{cmp-value as derived_value}
pub use Rattle.oim_value.specs.declared.interval.Interval.{Interval}
pub use Rattle.oim_value.specs.declared.level.Level.{Level}
pub use Rattle.oim_value.specs.declared.level.Level.TheVariants.{All as AllLevel, Unique, Complete, Consistent}
pub use Rattle.oim_value.specs.declared.value.Value.{Value}
pub use Rattle.oim_value.specs.declared.value.Value.TheVariants.{Nil, Number, Text as AText, Name as AName}
pub use Rattle.serde_json.proofs.Views.{get_member-put, get_member-put_other, Entry, view-Array, view-Object, members_view-insert_entry}
pub use Rattle.serde_json.specs.Data.{Data, Members, put, null, boolean, number, string, array, object, Items, no_items, item, no_members, member, unsigned, negative, Num}
pub use Rattle.serde_json.specs.Find.{as_object, get, get_member, as_array, of_integer, as_integer, as_null}
pub use Rattle.serde_json.specs.Read.{read, of_json, of_items, of_members, number_of, max_depth}
pub use Rattle.serde_json.specs.View.{members_view, view, items_view, number_view}
pub use Rattle.url.specs.Parts.{Parts, serialize, kind_of, IsValid}
pub use Rattle.oim_report.specs.Apart.{are_apart}
pub use Rattle.oim_report.specs.Document.{ObjectSays, Document, SaysDocument, SaysOneDocument}
pub use Rattle.oim_report.specs.Duplicates.{level_of, allows, allows_each, are_duplicates, values_meet, ValuesMeetIsMeets, allows_values}
pub use Rattle.oim_report.specs.Fact.{SaysFact, SaysValue, GivesText, SaysDecimals, SaysEntity, SaysLanguage, SaysPeriod, SaysNumber, SaysDimension, SaysMember, SaysMembers, GivesTextOr, SaysDimensions, SaysUnit}
pub use Rattle.oim_report.specs.FactFits.{FactFits, EntityFits, FitsEntity, FitsName, IsNamespace, LanguageFits, ValueFits, DimensionFits, MemberFits, UnitFits, MeasuresFit, IsLanguageOf}
pub use Rattle.oim_report.specs.FactMembers.{DimensionMembers, FactMembers, fact_parts, defined_in, dimension_parts, parts_of, core_keys, fact_keys, is_defined, HasForm, defined_members}
pub use Rattle.oim_report.specs.FactObject.{put_text, option_spelled, option_unit_text, member_data, with_defined, dimension_members, value_data, with_decimals, fact_members, fact_object}
pub use Rattle.oim_report.specs.Faults.{or_else, HasPart, ShownFault, faults_from, is_above_level, level_faults, refusals_of, tree_faults, listed, shown_fault, IsOfDuplicates}
pub use Rattle.oim_report.specs.Holds.{holds, document_refusal, document_holds, as_text, explicit_text, is_some_and, lacks_moment, misfits, pieces, runs_backward, as_whole, no_text, no_text_or_null, is_no_reference, is_unlisted, is_misfit}
pub use Rattle.oim_report.specs.Identifiers.{identifiers_in, EachFactHasAnIdentifier, Identify, IdentifierSays, identifiers, IdentifiersRise, tree_identifiers}
pub use Rattle.oim_report.specs.Info.{root_keys, accepted_reference, base_url_said, bindings_of, declarations, document_type, features_of, info, is_allowed_duplicates, level_said, namespaces_of, references_said, said_base_url, said_level, said_reference, said_references, taxonomy_of, info_keys, facts_of}
pub use Rattle.oim_report.specs.Json.{values, has_colon, any_in, any_member, members, Given, entries, given, given_of, is_no_array, is_no_object, is_object, is_unknown, object_at, text_of, json, has_member, absent, nil, text, whole, given_at, json_text, without_mark, other, is_absent, is_no_text}
pub use Rattle.oim_report.specs.Least.{least, IsLeast, first, told, is_shown}
pub use Rattle.oim_report.specs.Names.{entity_named, named, comes_again, named_as, names_refusal, in_namespace, refuses_some}
pub use Rattle.oim_report.specs.Namespaces.{binds_nothing, bindings_in}
pub use Rattle.oim_report.specs.Outcome.{fact_or, fact_outcome, all_or_first, facts_said, at, IsFree, FactsAreSaid, tree_outcome, outcome}
pub use Rattle.oim_report.specs.Pieces.{put_all, HasMember, IsPiece, alone, one_data}
pub use Rattle.oim_report.specs.PlainJson.{IsBefore, IsWhole, MembersArePlain, MembersHaveUtf8, IsPlainJson, HasUtf8, ItemsHaveUtf8, ReadHasUtf8, IsPlain, ItemsArePlain, PlainTextReadsBack}
pub use Rattle.oim_report.specs.ReadBack.{with_given, SpellsName, SpellsMeasures, SpellsMember, SpellsDimension, SpellsFact, SpellsValue, option_given, member_given, defined_given, dimensions_given, value_given, decimals_given, FactObjectHasParts, FactObjectIsPlain, parts_given, FactObjectReadsBack, FormsAreAccepted, NamesAreAccepted}
pub use Rattle.oim_report.specs.References.{base_url, is_reference_refused, is_text_within_limit, is_within_limit, kept, is_web, web_url, is_web_text, web_text, kept_by, KeptIsKept, KeptIsAccepted, KeptIsUtf8, IsKeptReference}
pub use Rattle.oim_report.specs.Refusal.{map_ok, unless}
pub use Rattle.oim_report.specs.Report.{AcceptedFactsFit, AcceptedReferencesAreKept, OutcomesAreSaid, IsOrderOf, index_cmp, Reading}
pub use Rattle.oim_report.specs.Said.{concept_kind, fact_of, fact_with, said_concept, said_dimensions, said_entity, said_fact, said_language, said_members, said_period, said_unit, said_value, said_decimals, value_with, all_named, dimension_names, in_order, members_with, said_member, side_of, unit_with, unit_of, text_said, with_name}
pub use Rattle.oim_report.specs.Sheet.{Sheet, dimension_kind, same_concept_kind, same_dimension_kind, key_names, entries_in, kind_in, has_other_kind, has_two_kinds, names_no_kind, concept_kind_named, dimension_kind_named, sheet_bindings, sheet_concepts, sheet_dimensions}
pub use Rattle.oim_report.specs.Shown.{document_shown, fact_shown, when, named_kind, of_other_kind, unknown_in, kindless, spell_same, first_item, repeated}
pub use Rattle.oim_report.specs.code.Beside.{interval_at, both_common, both_meet, level_beside}
pub use Rattle.oim_report.specs.code.DimensionRuns.{HaveDimensionsOf, dimensions_at}
pub use Rattle.oim_report.specs.code.FactsSoFar.{AreMore, AreSoFar, IsOneMore, IsSaid}
pub use Rattle.oim_report.specs.code.Findings.{is_text}
pub use Rattle.oim_report.specs.code.FoundFacts.{append, AreFound, AreRelated, is_above, rise_after}
pub use Rattle.oim_report.specs.code.Groups.{AreGroups, IsGroup, grouped_entries}
pub use Rattle.oim_report.specs.code.JsonMember.{seen}
pub use Rattle.oim_report.specs.code.Judged.{AreJudged, IsJudged}
pub use Rattle.oim_report.specs.code.ListedFaults.{document_fault, document_faults, fact_fault, fact_faults, facts_faults}
pub use Rattle.oim_report.specs.code.MemberTests.{defined_name, misdeclared, first_defined, names_at, names_in, names_with, is_misdeclared}
pub use Rattle.oim_report.specs.code.NameLists.{SharesUri, has_uri, list_at, AreLists}
pub use Rattle.oim_report.specs.code.Pieces.{Adds, IsLike, IsOutline, AreSpaces, facts_key, AfterSpaces, BeforeSpaces, IsEnd, IsTail, IsSplit, IsBeside, with_before, with_behind, IsUpTo, with_rest}
pub use Rattle.oim_report.specs.code.Ranks.{IsRank, AreRanks, AreSpans, IsSpan, OrderConcepts, IsFound}
pub use Rattle.oim_report.specs.code.Scope.{Scope}
pub use Rattle.oim_report.specs.code.SeenMembers.{seen_defined, seen_dimensions, seen_parts}
pub use Rattle.oim_report.specs.code.TapeValues.{Ascends, one, IsSoFar, AreData, IsRead, IsReadWhere, IsReadAs, IsLeaf}
pub use Rattle.oim_report.specs.code.TextCache.{TextSaysLanguage, TextSaysPeriod, TextSaysUnit, IsReached, IsTextCache}
pub use Rattle.oim_report.specs.code.Texts.{AreTextSpans, IsTextSpan, texts_at}
pub use Rattle.oim_report.specs.declared.concept_kind.ConceptKind.{ConceptKind}
pub use Rattle.oim_report.specs.declared.concept_kind.ConceptKind.TheVariants.{Numeric, Text, Name}
pub use Rattle.oim_report.specs.declared.dimension_kind.DimensionKind.{DimensionKind}
pub use Rattle.oim_report.specs.declared.dimension_kind.DimensionKind.TheVariants.{Explicit, Typed}
pub use Rattle.oim_report.specs.declared.fault.Fault.{Fault}
pub use Rattle.oim_report.specs.declared.json_values.json_member.JsonMember.{JsonMember}
pub use Rattle.oim_report.specs.declared.part.Part.{Part}
pub use Rattle.oim_report.specs.declared.part.Part.TheVariants.{Nothing}
pub use Rattle.oim_report.specs.declared.pieces.facts_so_far.FactsSoFar.{FactsSoFar}
pub use Rattle.oim_report.specs.declared.pieces.judgement.Judgement.{Judgement}
pub use Rattle.oim_report.specs.declared.place.Place.{Place}
pub use Rattle.oim_report.specs.declared.place.Place.TheVariants.{Document as AtDocument, Fact as AtFact}
pub use Rattle.oim_report.specs.declared.refusal.Refusal.{Refusal}
pub use Rattle.oim_report.specs.declared.unread.Unread.{Unread}
