-- The names that several proofs of this crate cite, passed on from one place. Declares nothing.
pub use Rattle.std.proofs.Common.{ℕ, ◌+◌, ◌-◌, ◌^◌, ◌<◌, ◌≤◌, arith, ℤ, pos, neg_ℤ, ◌-ℤ◌, ◌+ℤ◌, unsigned_abs, Option, Some, None, leb-true, ◌≡◌, ◌*◌, ◌/◌, ◌%◌, true, List, [], ◌∷◌, ◌++◌, length, get_or, append_assoc, length-append, sym, ap, ◌∙◌, append-nil, decimal, zero, suc, Bool, false, refl, subst, not, if◌then◌else◌, negsuc, ◌*ℤ◌, IsTrue, cond, inl, inr, ◌⊎◌, ◌≤ℤ◌, int_le, int_lt, All, Any, pow-add, eqb, take, drop, nat_lt, ◌&&◌, eqb-true, ◌≢◌, ◌<ℤ◌, div-add-mod', IsAscii, replicate, map, true≢false, Ordering, Less, Equal, ◌||◌, take_at, drop_at, take_all, drop-drop, Greater, w8, to_z, string_bytes, of_z, rules}
pub use Rattle.std.proofs.Math.Nat.{mul-le-mul_left, mul-div_cancel, pow-suc, pow-le-pow_right}
pub use Rattle.std.proofs.lemmas.Bool.{and_parts, cases_lt, and_from, or_right}
pub use Rattle.std.proofs.lemmas.Bool.Decides.{nat_tests, Decides-int_eq}
pub use Rattle.std.proofs.lemmas.Fmt.{decimal_digit, decimal_step_wide, decimal_by_steps_wide, IsAscii-decimal_wide, length-decimal-le_wide, decimal_is_IsNumeral_wide}
pub use Rattle.std.proofs.lemmas.Int.{ints, unsigned_abs-mul, clamps, to_z-of_z}
pub use Rattle.std.proofs.lemmas.List.{get_or_default, take_more, length-replicate, get_or-map, length-map, drop_all}
pub use Rattle.std.proofs.lemmas.List.Elements.{All-cons, All-nil, All-weaker, All-head, All-tail}
pub use Rattle.std.proofs.lemmas.List.Folds.{list_all-append}
pub use Rattle.std.proofs.lemmas.List.Kept.{AllPairs-cons}
pub use Rattle.std.proofs.lemmas.List.Sums.{fails_before_first, passes_at_first, split_at_first, position_or_len_is}
pub use Rattle.std.proofs.lemmas.Nat.{same_from_place, mod_below, div_below}
pub use Rattle.std.proofs.lemmas.Str.{IsAscii-append, IsAscii-take}
pub use Rattle.std.proofs.lemmas.Str.Ascii.{IsAscii-cons, IsAscii-nil}
pub use Rattle.std.specs.Char.{digit_value, is_ascii_digit}
pub use Rattle.std.specs.Fmt.{padded_integral, format_spec}
pub use Rattle.std.specs.Int.{int_max, int_min}
pub use Rattle.std.specs.List.{list_all, before_first, after_first, position_or_len}
pub use Rattle.std.specs.Str.Parse.{digits_value_after, digits_value}
pub use mathlib.Core.Bool.{false≢true}
pub use mir.Syntax.{w128}
pub use Rattle.oim_value.specs.Ends.{AreEnds, EachTwoMeet, AllMeetIffEndsMeet, EndsExist, EndsAreOne, WithinEndsIsWithinEach, EndsAreCommonInterval, intervals_of, has_interval}
pub use Rattle.oim_value.specs.Interval.{half_width, half_zeros, HasPoints, IsWithin, common_part, intervals_meet, HalfAfterPoint, HalfBeforePoint, IntervalHasNumber, IntervalHasPoints, WithinIsNear, CommonIsAssociative, CommonIsCommutative, CommonIsIdempotent, CommonIsBoth, MeetsByCommonPoint, MeetsByCommonPart, interval}
pub use Rattle.oim_value.specs.Meets.{MeetsIsReflexive, MeetsIsSymmetric, Meets}
pub use Rattle.oim_value.specs.Number.{signed, is_negative, integer_part, both_parts, fraction_part, without_leading, without_trailing, is_number, is_short, Denotes, onto_digit, is_numeral, is_point, unsigned, number_refusal, counted, IsShort, DenotesOne, ShortIsKept}
pub use Rattle.oim_value.specs.Plain.{with_leading_zeros, plain, sign_text, with_point, integer_digits, fraction_digits, has_point, IsPlain, IsWritable, FittingIsWritable, ShortIsWritable, PlainIsPlain, PlainIsOne, PlainIsAscii, PlainReadsBack, PlainTellsApart}
pub use Rattle.oim_value.specs.ValueOrder.{kind_order, value_cmp}
pub use Rattle.oim_value.specs.declared.interval.Interval.{Interval}
pub use Rattle.oim_value.specs.declared.limits.TheConstants.{MOST_DECIMALS, MOST_DIGITS, UNIT_PLACES}
pub use Rattle.oim_value.specs.declared.value.Value.{Value}
pub use Rattle.oim_value.specs.declared.value.Value.TheVariants.{Nil, Number, Text as AText, Name as AName}
