-- The names that several proofs of this crate cite, passed on from one place. Declares nothing.
pub use Rattle.std.proofs.Common.{◌≡◌, ℕ, List, [], ◌++◌, Result, Ok, Err, refl, sym, ap, ◌∙◌, ⊎_elim, zero, suc, ◌-◌, ◌∷◌, map, length, get_or, set, replicate, Option, Some, None, subst, Contains, flat_map, option_map, Any, length-set, unwrap_or, Bool, true, false, not, ◌&&◌, cond, All, is_le, Less, ◌≢◌, ◌^◌, ◌<◌, arith, ◌+◌, take, drop, ◌==◌, MatchOption, position, IsUtf8, eqb-true, lt-ltb, ne_eqb, drop-drop, drop_at, length-append, take_at, take-append-drop, ◌≤◌, inl, inr, true≢false, codes, slice_get, ◌≤ℤ◌, if◌then◌else◌, append-nil, eqb, eq-eqb, zero-add, ◌↔◌, IsTrue, EachIndex, is_eq, is_lt, nat_cmp, Ordering, Equal, Greater, append_assoc, filter, nat_lt, HoldsAt, IsPermutation, get_or-append-add, length-drop, take_all, IfSome, find, bytes_eq, IsAscii, swap, ◌||◌, Bor, get_or-set_other, IfOk, ◌⊎◌, add-one, rules, IfErr, map-id, get_or-set_same, length-take-le, vec_len}
pub use Rattle.std.proofs.Math.Seq.{set-set, get_or-append_seam, take-add}
pub use Rattle.std.proofs.lemmas.Bool.{not-false, both_ways, cases_order, false≢true, cases_Bool, false_from_ne_true, cases_lt, and_parts, or_parts, true_from_ne_false, OnTrue_from}
pub use Rattle.std.proofs.lemmas.Bool.Decides.{nat_tests}
pub use Rattle.std.proofs.lemmas.Cmp.{nat_cmp_total, nat_eq_equiv, ranked}
pub use Rattle.std.proofs.lemmas.Grind.{flat_map-append}
pub use Rattle.std.proofs.lemmas.List.{map-set, length-replicate, drop_more, get_or_append_left, get_or_at, get_or_default, map-append, get_or-map, length-map, drop_all, take_more, length_push, set_comm, set-get_or, take_rest, with_items_is, map_push, places}
pub use Rattle.std.proofs.lemmas.List.Elements.{All-head, All-tail, All-weaker, All-contains, All-cons, All-nil, filter-append, All-push}
pub use Rattle.std.proofs.lemmas.List.Folds.{flat_map-map}
pub use Rattle.std.proofs.lemmas.List.Quantifiers.{position-Some}
pub use Rattle.std.proofs.lemmas.List.Sorted.{Contains-permutation, IsPermutation-sym, length_permutation, All-permutation, IsPermutation-append_right, IsPermutation-filter_both, IsPermutation-refl, IsPermutation-trans, IsPermutation-append_comm, IsPermutation-append_left, IsPermutation-keeps, IsPermutation-map, IsNonDecreasingBy-from_sort_by_key, answers_always, IsPartitionPoint-from_clause}
pub use Rattle.std.proofs.lemmas.List.Sums.{AllPass-from_list_all, list_all-from_AllPass, position_or_len_is, fails_before_first}
pub use Rattle.std.proofs.lemmas.Map.Keys.{IsDistinct-IsPermutation, Less-from_sorted, apart_from_distinct, sorted_from_all_adjacent, sorted_from_strictly_increasing}
pub use Rattle.std.proofs.lemmas.Map.Lookups.{exact_unsigned}
pub use Rattle.std.proofs.lemmas.Option.{slice_get-map, get_or_from_slice_get, slice_get_within, slice_get-get_or}
pub use Rattle.std.proofs.lemmas.Result.{err_from_is_err_and, MatchResult-at_ok, IfOk-weaker, on_ok_weaker}
pub use Rattle.std.proofs.lemmas.Slice.Zip.{all_zipped_more, AllZip-long}
pub use Rattle.std.proofs.lemmas.Str.{IsUtf8-from_ascii, is_utf8-from_IsUtf8}
pub use Rattle.std.specs.Cmp.{tied_itself, Equal-is}
pub use Rattle.std.specs.Io.KnownBytes.{Appends, Consumes}
pub use Rattle.std.specs.List.{AllByRecursion, list_all, position_or_len, IsAllAdjacentAnswer, IsDistinct, range_with_len, before_first, after_first, AllZip}
pub use Rattle.std.specs.List.Sorted.{IsNonDecreasingBy, IsStableByKey, ties, IsPartitionPoint, IsPartitionedBy}
pub use Rattle.std.specs.Option.{option_cmp}
pub use Rattle.std.specs.Ordering.{ord_max, ordering_reverse, ordering_then}
pub use Rattle.std.specs.Prelude.{⊤}
pub use Rattle.std.specs.Result.{result_ok, result_err}
pub use Rattle.std.specs.Str.{is_utf8}
pub use Rattle.std.specs.Str.Parse.{AllDigits, ParsesUnsigned, digits_value}
pub use Rattle.fact_base.proofs.Bodies.{accepted_fits, body_ignores_order, body_of_both}
pub use Rattle.fact_base.proofs.BuilderLaws.{union_itself, always_ok, with_nothing}
pub use Rattle.fact_base.proofs.Members.{each_by_there, first_or_later, in_flat_map, none_there, some_in_other, some_there, first_there, later_there, in_one_of_both, each_in_turn, turn_there, from_map}
pub use Rattle.fact_base.proofs.RowsOf.{facts_are, rows_tell_facts}
pub use Rattle.fact_base.proofs.Sets.{set_of_is_set, is_set_of}
pub use Rattle.fact_base.specs.Body.{Body, body, union, text_cmp, all_facts}
pub use Rattle.fact_base.specs.Contents.{Contents}
pub use Rattle.fact_base.specs.Entries.{Entry, facts_of_entries, facts_with}
pub use Rattle.fact_base.specs.Fits.{Fits, IsAccepted}
pub use Rattle.fact_base.specs.Passed.{FactFits}
pub use Rattle.fact_base.specs.Rows.{values_at, Row, rows_of}
pub use Rattle.fact_base.specs.Shown.{rows_left, shown}
pub use Rattle.fact_base.specs.Verdict.{verdict, each_meet, verdict_of, IsCommonOf, IsEvidence, IsPairOf, begin_with_numbers}
pub use Rattle.fact_base.specs.declared.evidence.Evidence.{Evidence}
pub use Rattle.fact_base.specs.declared.evidence.Evidence.TheVariants.{Alike, Common, Apart}
pub use Rattle.merge_laws.specs.Ends.{summary_of_all, Summarised}
pub use Rattle.merge_laws.specs.Members.{SameMembers}
pub use Rattle.merge_laws.specs.Sorted.{IsRising, IsSet, entry_key}
pub use Rattle.oim_dims.proofs.Orders.{fact_cmp_exact, fact_cmp_total, facts_agree, dimensions_agree}
pub use Rattle.oim_dims.specs.DimensionSet.{DimensionSet}
pub use Rattle.oim_dims.specs.FactOrder.{dimensions_cmp, fact_cmp}
pub use Rattle.oim_dims.specs.declared.fact.Fact.{Fact}
pub use Rattle.oim_names.specs.Bindings.{Binding, uri_of}
pub use Rattle.oim_report.proofs.Passed.{range_once, within_limit}
pub use Rattle.oim_report.specs.Document.{Document}
pub use Rattle.oim_report.specs.Duplicates.{level_of}
pub use Rattle.oim_report.specs.Identifiers.{IdentifierSays, identifiers, identifiers_in}
pub use Rattle.oim_report.specs.Json.{any_member, given, text, values, json, entries}
pub use Rattle.oim_report.specs.Outcome.{outcome}
pub use Rattle.oim_report.specs.Sheet.{Sheet, sheet_outcome}
pub use Rattle.oim_report.specs.declared.refusal.Refusal.{Refusal}
pub use Rattle.oim_value.proofs.ValueOrders.{value_cmp_exact, values_agree}
pub use Rattle.oim_value.specs.Level.{level_cmp, level_entry}
pub use Rattle.oim_value.specs.ValueOrder.{value_cmp}
pub use Rattle.oim_value.specs.declared.level.Level.{Level}
pub use Rattle.oim_value.specs.declared.level.Level.TheVariants.{Unique, Complete, Consistent, All as AllLevel}
pub use Rattle.oim_value.specs.declared.value.Value.{Value}
pub use Rattle.oim_value.specs.declared.value.Value.TheVariants.{Nil, Number, Text as AText, Name as AName}
pub use Rattle.oim_write.proofs.NumberedFacts.{row_facts, rows_facts_are, length-next_row, rows_facts}
pub use Rattle.oim_write.proofs.Passing.{Breaks-more, Breaks-trans, Passes-nil, Passes-trans, Appends-passed, AppendsFront-broken}
pub use Rattle.oim_write.proofs.Ranks.{rank_at, count_at, parted}
pub use Rattle.oim_write.specs.Bytes.{canonical}
pub use Rattle.oim_write.specs.Rank.{padded, width}
pub use Rattle.oim_write.specs.Sink.{AppendsFront, written_of, failures_after_fault}
pub use Rattle.oim_write.specs.SinkBuffer.{Breaks, Passes}
pub use Rattle.oim_write.specs.Tree.{features_member, identifier, members_before, members_by, name_text, prefix, text_items, tree_declaring, xbrl_member}
pub use Rattle.oim_write.specs.declared.write_fault.WriteFault.{WriteFault}
pub use Rattle.oim_write.specs.declared.write_fault.WriteFault.TheVariants.{OutOfMemory, Device}
pub use Rattle.serde_json.specs.Data.{Data, string, array, object, Members, no_members, member}
pub use Rattle.oim_merge.specs.Above.{AllowedIsDeclared, is_above, row_is_above, some_above}
pub use Rattle.oim_merge.specs.Added.{Added, added, StepsAreList, with_report, with_reports}
pub use Rattle.oim_merge.specs.Bases.{base_of}
pub use Rattle.oim_merge.specs.Bundle.{is_line_end, is_filled, line_pieces, filled_pieces, report_pieces}
pub use Rattle.oim_merge.specs.EventLines.{LinesSayOneEvent, IsBadLine, IsEventLine, IsFirstBadLine, lines_of, without_empty_last}
pub use Rattle.oim_merge.specs.History.{IsReadAsBody, fresh, took, joined, documents_of, EarlierTextsGiveBodies, HistoriesAreForgotten, HistoriesGiveBodies, MergedTextsMerge, TextsGiveBodies}
pub use Rattle.oim_merge.specs.Lines.{LinesTellVerdicts, WordsShowVerdicts, verdict_shown, AreRowsFrom, AreRowsOf, HasOneText, IsRow, LinesAreOne, RowText, identifier_at, line_text}
pub use Rattle.oim_merge.specs.Mentions.{AreOf, all_indexed, index, indexed}
pub use Rattle.oim_merge.specs.ReadBack.{MergedTextsAreCanonical, document_at, CanonicalReadsBack, EarlierReadsBack, IsHeldTo, LeastLevelIsDeclared, EarlierIsNotCanonical}
pub use Rattle.oim_merge.specs.Replay.{IsReplayOf, Replay, refused_by, refused_takes, world_of, texts_at}
pub use Rattle.oim_merge.specs.Replicas.{Numbers, base_named, both, documents_named, joined_with, report, Agree, ReplicasStay, WireAgrees, Writer, earlier, present, reached, text_by, text_chosen, wire, with_accepted, with_outcome, EqualSetsWriteTheSame, ReplicasSayAsAfresh}
pub use Rattle.oim_merge.specs.Reports.{accepted, document_in, merged, refused, refusal_in, refused_from}
pub use Rattle.oim_merge.specs.Run.{BundleStops, ConsolidatesBundle, IsSheetOf, Stops, StopsBehindSheet, Writes, fault_of, failures_after_run}
pub use Rattle.oim_merge.specs.Schedule.{Machine, World, happens, keeps, kept_by, numbered, receives, run, start, world_after, IsBadAt, IsFirstBad, NoneIsBad, is_send, names_none, sent_by, is_outside}
pub use Rattle.oim_merge.specs.SourceCalls.{MentionsStop, mention_texts, AppendsMentions}
pub use Rattle.oim_merge.specs.Sources.{by_fact, is_of, EachFactIsSaid, EachMentionIsTold, EachObjectIsMentioned, IsMentionOf, mentions, mentions_by_fact, mentions_from, mentions_in, mentions_of, Saying, SourcesIgnoreOrder, saying, SourceText, mention_text, source_line}
pub use Rattle.oim_merge.specs.Traced.{Traced, TracedStepsAreList, traced, with_all_traced, with_traced}
pub use Rattle.oim_merge.specs.code.BufferedRows.{lent, indexed_text, PassesRows}
pub use Rattle.oim_merge.specs.code.EventTokens.{IsNumberText, AreNumbersText}
pub use Rattle.oim_merge.specs.code.Held.{IsTextAt, IsWritten, AreWithin, IsCurrent, Stay, sent_texts, KeepReadings, AreHeld, world_in}
pub use Rattle.oim_merge.specs.code.Readings.{read_as, AreReadings, IsReadingOf, with_read}
pub use Rattle.oim_merge.specs.declared.event.Event.{Event}
pub use Rattle.oim_merge.specs.declared.event.Event.TheVariants.{Take, Join, Send, Receive, Restart}
pub use Rattle.oim_merge.specs.declared.mentions.IndexedMention.{IndexedMention}
pub use Rattle.oim_merge.specs.declared.mentions.Mention.{Mention}
