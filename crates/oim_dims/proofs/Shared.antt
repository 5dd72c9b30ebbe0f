-- The names that several proofs of this crate cite, passed on from one place. Declares nothing.
pub use Rattle.std.proofs.Common.{◌≡◌, ℕ, ◌<◌, ◌≤◌, refl, sym, ap, ◌∙◌, inl, inr, arith, rules, ℤ, pos, negsuc, neg_ℤ, ◌≤ℤ◌, to_z, w8, w16, nat_le, int_le, unsigned_abs, ◌&&◌, Bool, true, false, zero, suc, ◌<ℤ◌, ◌+◌, List, [], ◌∷◌, ◌++◌, length, drop, ◌||◌, ◌+ℤ◌, ◌*ℤ◌, Some, None, codes, if◌then◌else◌, cond, Option, is_some, option_map, find, ◌⊎◌, get_or, take, subst, Result, Ok, Err, OnOk, OnErr, Contains, IsTrue, insert, is_lt, is_eq, Ordering, Less, Equal, Greater, map, ◌*◌, ◌/◌, ◌%◌, ◌≢◌, All, not, ◌==◌, IsSorted, nat_cmp, int_lt, IfSome, take_all, ◌-◌, add-one, slice_range, zip, AllPairs, bytes_eq, append_assoc, leb-true, int_eq, length-take-le, IsPermutation, length-append, eqb-true, sum_by, count_by, unwrap_or, string_bytes, Bor, lit<, tests, FitsSigned, w64, ◌^◌}
pub use Rattle.std.proofs.Math.Bool.{or-true, and-false}
pub use Rattle.std.proofs.Math.Seq.{take-append_seam, drop-cons, get_or-append_seam}
pub use Rattle.std.proofs.lemmas.Bool.{cases_lt, false≢true, and_parts, false_from_ne_true, or_parts, not-true, or_from}
pub use Rattle.std.proofs.lemmas.Bool.Decides.{nat_tests}
pub use Rattle.std.proofs.lemmas.Int.{ints, by_lt_z, to_z-of_z}
pub use Rattle.std.proofs.lemmas.Iterator.Search.{find_from_yields_List, all_from_yields_List}
pub use Rattle.std.proofs.lemmas.Iterator.Splits.{YieldsList-from_str_split}
pub use Rattle.std.proofs.lemmas.List.{length-map, take_more, map-append, nil_from_length, drop_all}
pub use Rattle.std.proofs.lemmas.List.Elements.{All-cons, All-tail, All-get_or}
pub use Rattle.std.proofs.lemmas.List.Folds.{find-append, list_any-append}
pub use Rattle.std.proofs.lemmas.List.Sorted.{IsPermutation-refl, IsPermutation-sym, sorted_far, ranks_by, sum_by-IsPermutation, All-permutation, length_permutation}
pub use Rattle.std.proofs.lemmas.Option.{cond_some, MatchOption-at_some, MatchOption-at_none}
pub use Rattle.std.proofs.lemmas.Result.{err_from_is_err_and, IfOk-weaker}
pub use Rattle.std.proofs.lemmas.Slice.Zip.{AllZip-long, all_zipped_more}
pub use Rattle.std.specs.Char.{is_ascii_alphabetic, is_ascii_alphanumeric, to_ascii_lowercase, digit_value, is_ascii_digit}
pub use Rattle.std.specs.Cmp.{tied_itself, IsTotalOrder}
pub use Rattle.std.specs.Int.{is_in_range, int_div_euclid, int_rem_euclid}
pub use Rattle.std.specs.List.{position_or_len, before_first, after_first, list_any, list_all, slice_split, onto_first, AllZip, join_with_byte}
pub use Rattle.std.specs.Option.{option_or, option_cmp, option_map_or, option_eq}
pub use Rattle.std.specs.Ordering.{ordering_reverse, ordering_then}
pub use Rattle.std.specs.Str.{str_to_ascii_lowercase}
pub use Rattle.std.specs.Str.Parse.{digits_value_after}
pub use Rattle.jiff_core.proofs.CalendarLemmas.{day_count-lt_year, day_count-last_of_year, days_in_year_bounds, days_from_civil-day_count, day_count_bounds, day_count-day_of_year, day_count-lt_month, day_count-day, days_in_month_bounds, day_count-epoch, day_count-next_year, day_count-next_month, day_count-end}
pub use Rattle.jiff_core.proofs.DateLemmas.{civil, days_from_civil-max}
pub use Rattle.jiff_core.proofs.SignedLemmas.{signed_arith}
pub use Rattle.jiff_core.specs.Calendar.{days_in_month, day_count, days_from_civil, IsCivilDate, IsBetween, days_in_year}
pub use Rattle.jiff_core.specs.Date.{IsYmd, epoch_day}
pub use Rattle.oim_names.proofs.Bytes.{bytes_not_eq, same_bytes, bytes_eq-refl}
pub use Rattle.oim_names.specs.Bindings.{Binding, AreBindings, uri_of, prefix_of}
pub use Rattle.oim_names.specs.Expansion.{Expands, name_refusal, is_unbound, is_reserved, lacks_form, lacks_binding, lies_in_reserved, reserved_uri, a_name, refuses}
pub use Rattle.oim_names.specs.QName.{QName, exact_name, is_name, is_part, prefix_part, local_part}
pub use Rattle.oim_names.specs.contracts.name.NameOrd.TheImpl.Laws.{total-law as name_total}
pub use Rattle.oim_names.specs.declared.reason.Reason.{Reason}
pub use Rattle.oim_names.specs.declared.reason.Reason.TheVariants.{OutOfMemory, NameForm, UnboundPrefix, ReservedNamespace, UnitForm, PeriodOrder}
pub use Rattle.oim_value.proofs.Ends.{le_to, le_from}
pub use Rattle.oim_value.proofs.Numerals.{after_lt, digit_here, next_le}
pub use Rattle.oim_value.specs.ValueOrder.{name_cmp}
pub use Rattle.oim_dims.specs.DateTime.{moment_of, moment_text, IsMoment, matches_picture, picture}
pub use Rattle.oim_dims.specs.DimensionSet.{is_below, rises, has_name, with_member, MembersGrow, NamesAreThere, DimensionSet, repeats}
pub use Rattle.oim_dims.specs.Language.{is_hyphen, is_group, is_language, LanguagesAreKept}
pub use Rattle.oim_dims.specs.Period.{start_part, period_of, period_text, HasMoments, EndsAfterStart, PeriodsReadBack, from_to, end_part, IsPeriod, ReadPeriodsArePeriods}
pub use Rattle.oim_dims.specs.Separators.{is_slash, is_star}
pub use Rattle.oim_dims.specs.Unit.{is_mark, is_piece, is_unit_text, some_piece, unit_refusal, numerator_pieces, denominator_pieces, IsMeasure, Measures, NamesEach, HasMeasures, pure_name, pure_alone, UnitsAreNotRefused, OthersAreRefused, TextsDenoteOneUnit, product_text, inner, DenotesUnit, measure_text, unit_text}
pub use Rattle.oim_dims.specs.declared.limits.TheConstants.{DAY_SECONDS, LAST_MOMENT}
pub use Rattle.oim_dims.specs.declared.member.Member.{Member}
pub use Rattle.oim_dims.specs.declared.period.Period.{Period}
pub use Rattle.oim_dims.specs.declared.period.Period.TheVariants.{Forever, Instant, Duration}
