-- The names that several proofs of this crate cite, passed on from one place. Declares nothing.
pub use Rattle.std.proofs.Common.{◌≡◌, ℕ, ◌<◌, List, [], ◌∷◌, ◌++◌, take, append-nil, ⊎_elim, Option, Some, None, Result, Ok, Err, sym, subst, ◌∙◌, arith, length-take-le, length-append, ◌≢◌, suc, ◌+◌, ◌≤◌, length, drop, get_or, slice_get, refl, ap, append_assoc, take-add, take_all, take_at, drop_at, take-suc, ◌↔◌, Bool, true, false, not, IsTrue, is_some, nat_eq, ◌-◌, inl, inr, Contains, IsSorted, is_lt, Ordering, Less, Equal, Greater, flat_map, All, nat_lt, map, add-zero, zero, ◌/◌, ◌%◌, ◌^◌, add-one, ℤ, unsigned_abs, replicate, OnOk, is_ok, if◌then◌else◌, IfErr, zero-add, take-append-drop, ◌||◌, codes, IsUtf8, nat_cmp, cond, lt-ltb, count_by, IfSome, option_map, bytes_eq, get_or-take, is_eq, string_bytes, rules, unwrap_or, length-drop, ne_eqb, ◌==◌}
pub use Rattle.std.proofs.KnownBytes.{Appends-nil, Appends-trans}
pub use Rattle.std.proofs.lemmas.Bool.{cases_lt, false≢true, cond-true, cond-false, cases_Bool, and_from, cases_order, and_parts}
pub use Rattle.std.proofs.lemmas.Bool.Decides.{Decides-eqb, nat_tests}
pub use Rattle.std.proofs.lemmas.Cmp.{nat_list_cmp_total, nat_list_eq_equiv}
pub use Rattle.std.proofs.lemmas.List.{get_or_default, drop_more, length-map, drop-append-le, drop_all, replicate_more, get_or_at, map-append, take_more}
pub use Rattle.std.proofs.lemmas.List.Elements.{All-contains, Contains-append_left, Contains-append_right, All-head, All-tail}
pub use Rattle.std.proofs.lemmas.List.Sorted.{ranks_by, sorted_far, IsPartitionPoint-from_clause}
pub use Rattle.std.proofs.lemmas.Map.Lookups.{exact_bytes}
pub use Rattle.std.proofs.lemmas.Option.{slice_get_past, slice_get-get_or, slice_get-map, get_or_from_slice_get}
pub use Rattle.std.proofs.lemmas.Result.{on_ok_weaker, err_from_is_err_and}
pub use Rattle.std.proofs.lemmas.Str.{IsUtf8-from_is_utf8, digit_value_digit, IsUtf8-append, IsUtf8-from_ascii}
pub use Rattle.std.specs.Bool.{OnTrue}
pub use Rattle.std.specs.Char.{digit_value, is_ascii_alphanumeric}
pub use Rattle.std.specs.Cmp.{IsTotalOrder, tied_itself, nat_cmp_total, nat_cmp_is, Equal-is}
pub use Rattle.std.specs.Cmp.Lexicographic.{slice_cmp}
pub use Rattle.std.specs.Io.KnownBytes.{Appends, Keeps}
pub use Rattle.std.specs.List.Sorted.{IsPartitionPoint, IsPartitionedBy, IsStrictlySortedBy}
pub use Rattle.std.specs.Option.{ForSome}
pub use Rattle.std.specs.Ordering.{ordering_reverse, ordering_then, match_ordering}
pub use Rattle.fact_base.proofs.BuilderLaws.{set_of_set, sorted_once}
pub use Rattle.fact_base.proofs.Members.{first_there, from_map, in_map, first_or_later, none_there, in_flat_map, later_there, some_there, each_by_there, in_one_of_both}
pub use Rattle.fact_base.proofs.Passed.{AreKept, fact_plain, kept_more, none_kept, object_kept, text_kept, put_first}
pub use Rattle.fact_base.proofs.Sets.{IsSetOf, set_of_is_set, is_set_of}
pub use Rattle.fact_base.proofs.TextOrder.{text_cmp_exact, text_cmp_total}
pub use Rattle.fact_base.proofs.Walks.{first_holds, others_hold}
pub use Rattle.fact_base.specs.Body.{Body, text_cmp}
pub use Rattle.fact_base.specs.Entries.{Entry, facts_of_entries, facts_of_entry, facts_with}
pub use Rattle.fact_base.specs.Fits.{Fits}
pub use Rattle.fact_base.specs.Passed.{IsSet, Sheet, fact_object, level_of, FactFits, IsBefore, IsKeptReference, IsNamespace, IsPlainJson, ItemsArePlain, ItemsHaveUtf8, SpellsDimension, SpellsMeasures, SpellsName, SpellsValue, member_data, SameMembers, dimension_members, option_spelled, option_unit_text, put_text, value_data, with_decimals, with_defined}
pub use Rattle.fact_base.specs.Rows.{Row, rows_of}
pub use Rattle.fact_base.specs.Sets.{set_of}
pub use Rattle.fact_base.specs.Shown.{HoldForUris, rows_left, shown}
pub use Rattle.json.specs.Token.{Token, key, begin_object, end_object}
pub use Rattle.oim_dims.proofs.Indices.{less_is}
pub use Rattle.oim_dims.proofs.Orders.{fact_cmp_total, dimensions_cmp_exact}
pub use Rattle.oim_dims.specs.DimensionSet.{DimensionSet, IsDimensionSet, is_below, rises}
pub use Rattle.oim_dims.specs.FactOrder.{fact_cmp, dimensions_cmp}
pub use Rattle.oim_dims.specs.Period.{period_text}
pub use Rattle.oim_dims.specs.Unit.{Measures}
pub use Rattle.oim_dims.specs.declared.fact.Fact.{Fact}
pub use Rattle.oim_dims.specs.declared.member.Member.{Member}
pub use Rattle.oim_dims.specs.declared.member.Member.TheVariants.{Nil, Text, Name, Name as MemberName}
pub use Rattle.oim_names.proofs.Bytes.{bytes_not_eq, other_bytes, same_bytes}
pub use Rattle.oim_names.specs.Bindings.{Binding, bound, is_refused_binding, uri_of}
pub use Rattle.oim_names.specs.QName.{QName, name_cmp, is_name_byte, is_part}
pub use Rattle.oim_value.proofs.Written.{all_places, plain_whole, all_places_ascii, plain_cut}
pub use Rattle.oim_value.specs.Level.{level_entry}
pub use Rattle.oim_value.specs.Number.{without_trailing}
pub use Rattle.oim_value.specs.Plain.{integer_digits, plain, sign_text, with_leading_zeros}
pub use Rattle.oim_value.specs.declared.level.Level.{Level}
pub use Rattle.oim_value.specs.declared.level.Level.TheVariants.{Unique}
pub use Rattle.oim_value.specs.declared.limits.TheConstants.{UNIT_PLACES}
pub use Rattle.oim_value.specs.declared.value.Value.{Value}
pub use Rattle.oim_value.specs.declared.value.Value.TheVariants.{Name as AName, Number}
pub use Rattle.serde_json.specs.Data.{Data, Members, no_members, member, string, array, object, Items, items_depth, put}
pub use Rattle.serde_json.specs.Written.{comma_if, compact_text, items_text, members_text, outline, members_outline}
pub use Rattle.oim_write.specs.Bytes.{TreesArePlain, canonical}
pub use Rattle.oim_write.specs.Ordered.{ordered_fact, decimals_member, defined_members, text_member, FactsAreWrittenInOrder, ordered_dimensions}
pub use Rattle.oim_write.specs.Prefixes.{bindings_of, FactsAreSpelled}
pub use Rattle.oim_write.specs.Rank.{padded, rank, width}
pub use Rattle.oim_write.specs.Sink.{AppendsFirst, AppendsFront, saturated, written_of, failures_after_fault}
pub use Rattle.oim_write.specs.SinkBuffer.{Pending, Passes, Breaks, nothing_yet}
pub use Rattle.oim_write.specs.Tokens.{Adds, AddsValue, AddsMembers, members_tokens}
pub use Rattle.oim_write.specs.Tree.{name_text, text_items, identifier, members_before, members_by, prefix, xbrl_member, facts_object, features_member, info_object, namespaces_object}
pub use Rattle.oim_write.specs.Uris.{uris_of_names, defined_names, dimension_names, entity_names, fact_names, unit_names, uris, value_names}
pub use Rattle.oim_write.specs.code.Compared.{failures_since, held, taken}
pub use Rattle.oim_write.specs.code.Table.{Gains, ShareUri, row_names, SharePrefix}
pub use Rattle.oim_write.specs.code.TextPieces.{numbered_members, numbered_text, part, parts, text_parts, facts_text, has_some, head_text, namespace_members}
