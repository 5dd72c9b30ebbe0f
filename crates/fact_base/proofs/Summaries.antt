-- The summary of different values of one kind, with or without nil.
use Rattle.fact_base.proofs.Shared.{◌≡◌, ◌≢◌, ℕ, zero, suc, ◌≤◌, length, Bool, true, false, cond, ◌||◌, ◌&&◌, List, [], ◌∷◌, Option, Some, None, refl, sym, ap, subst, ◌∙◌, ⊎_elim, inl, inr, arith, All-contains, true≢false, ◌↔◌, ◌⊎◌, IsTrue, Contains, is_some, int_lt, ℤ, ◌≤ℤ◌, ◌<ℤ◌, IfSome, AllByRecursion, Any, list_all, list_any, option_and_then, Less, and_parts, and_from, cases_Bool, same_from_decides, Any-from_list_any, AllPairs-cons, none-some, option_and_then_some, same_Some, Summarised, TellsAll, summary_of_all, IsSet, all_by_index, all_in_turn, Meets, AreApart, AreDifferent, AreNilOrOfKind, EachTwoValuesMeet, MeetBetween, index_of_greatest_low, index_of_least_high, kind_order, value_cmp, Value, Nil, Number, AText, AName, crossed_ends_are_apart, different_meet_as_numbers, different_meet_between_ends, values_meet, values_meet_is_meets, AreAlike, AreSummarised, shared_by, IsApartPair, IsCommonOf, IsPairOf, IsShownPair, begin_with_numbers, each_meet, verdict_of, Consistent, Inconsistent}
use Rattle.std.specs.List.Sorted.{IsStrictlySortedBy}
use Rattle.std.proofs.lemmas.Int.{ints}
use Rattle.merge_laws.proofs.Ends.{summary_tells_all}
use Rattle.oim_value.specs.Ends.{AreEnds, has_interval, intervals_of}
use Rattle.oim_value.specs.declared.interval.Interval.{Interval}
use Rattle.oim_value.proofs.Ends.{ends_are_one, within_ends_is_within_each}
use Rattle.fact_base.proofs.Members.{each_by_there, first_there, first_or_later, later_there, none_there}

-- ---- every two values meet

all_pass : {A : Type 0} (p : A → Bool) (P : A → Type 0) → ((x : A) → IsTrue (p x) ↔ P x) → (xs : List A) → IsTrue (list_all p xs) ↔ AllByRecursion P xs
all_pass p P told [] = (λ _. tt, λ _. refl)
all_pass p P told (x ∷ xs) = (
  λ h. let both = and_parts (p x) (list_all p xs) h in ((told x).0 both.0, (all_pass p P told xs).0 both.1),
  λ h. and_from (p x) (list_all p xs) ((told x).1 h.0) ((all_pass p P told xs).1 h.1),
)

pub each_meet_is : (vs : List Value) → IsTrue (each_meet vs) ↔ EachTwoValuesMeet vs
each_meet_is [] = (λ h i j d under within. absurd (omega (arith, within)), λ _. refl)
each_meet_is (v ∷ vs) =
    let first = all_pass (values_meet v) (Meets v) (values_meet_is_meets v) vs in (
      λ h.
          let both = and_parts (list_all (values_meet v) vs) (each_meet vs) h in
          AllPairs-cons Meets v vs (all_by_index (Meets v) vs (first.0 both.0)) ((each_meet_is vs).0 both.1),
      λ h. and_from (list_all (values_meet v) vs) (each_meet vs)
          (first.1 (all_in_turn (Meets v) vs (λ k d within. h zero (suc k) d (omega arith) (omega (arith, within)))))
          ((each_meet_is vs).1 (λ i j d under within. h (suc i) (suc j) d (omega (arith, under)) (omega (arith, within)))),
    )

-- ---- one kind

some_kind : (v : Value) → 1 ≤ kind_order v → v ≢ Nil
some_kind v some is = omega (arith, some, ap kind_order is)

nil_or_not : (v : Value) → (v ≡ Nil) ⊎ (v ≢ Nil)
nil_or_not Nil = inl refl
nil_or_not (Number m d) = inr (some_kind (Number m d) (omega arith))
nil_or_not (AText t) = inr (some_kind (AText t) (omega arith))
nil_or_not (AName n) = inr (some_kind (AName n) (omega arith))

-- all values that are not nil are of one kind
of_one_kind : (vs : List Value) → AreAlike vs → (kind : ℕ) × AreNilOrOfKind kind vs
of_one_kind [] alike = (0, λ k d within. absurd (omega (arith, within)))
of_one_kind (v ∷ vs) alike = ⊎_elim
    (λ nil.
    let rest = of_one_kind vs (λ x y first second. alike x y (later_there v vs x first) (later_there v vs y second)) in (
      rest.0,
      each_by_there (λ x. (x ≡ Nil) ⊎ (kind_order x ≡ rest.0)) (v ∷ vs) (λ x at.
          ⊎_elim (λ is. inl (sym is ∙ nil)) (All-contains (λ y. (y ≡ Nil) ⊎ (kind_order y ≡ rest.0)) vs x rest.1) (first_or_later v vs x at)),
    ))
    (λ some. (
      kind_order v,
      each_by_there (λ x. (x ≡ Nil) ⊎ (kind_order x ≡ kind_order v)) (v ∷ vs) (λ x at.
          ⊎_elim (λ nil. inl nil) (λ other. inr (alike x v at (first_there v vs) other some)) (nil_or_not x)),
    ))
    (nil_or_not v)

-- ---- the contents of a summary

no_intervals : (vs : List Value) → list_any has_interval vs ≡ false → intervals_of vs ≡ []
no_intervals [] h = refl
no_intervals (Number m d ∷ vs) h = absurd (true≢false h)
no_intervals (v ∷ vs) h = no_intervals vs h

ends_told : (vs : List Value) (ends : Interval) → AreEnds ends (intervals_of vs) → (summary_of_all vs).ends ≡ Some ends
ends_told vs ends are = by_ends (summary_of_all vs).ends refl
  where
    tells : TellsAll vs (summary_of_all vs)
    tells = summary_tells_all vs

    by_ends : (a : Option Interval) → (summary_of_all vs).ends ≡ a → (summary_of_all vs).ends ≡ Some ends
    by_ends None is =
        let nothing : intervals_of vs ≡ [] = no_intervals vs (sym tells.number ∙ ap is_some is) in
        let reached = subst (λ is. Any (λ i. i.low ≡ ends.low) is) nothing are.low_reached in
        absurd (omega (arith, reached.2))
    by_ends (Some found) is = is ∙ ap Some (ends_are_one (intervals_of vs) found ends (subst (λ a. IfSome a (λ e. AreEnds e (intervals_of vs))) is tells.ends) are)

told_ends : (vs : List Value) (ends : Interval) → (summary_of_all vs).ends ≡ Some ends → AreEnds ends (intervals_of vs)
told_ends vs ends is = subst (λ a. IfSome a (λ e. AreEnds e (intervals_of vs))) is (summary_tells_all vs).ends

abbrev unless : Bool → Interval → Option Interval
unless b ends = cond b None (Some ends)

shared_parts : (s : Summarised) (ends : Interval) → shared_by s ≡ Some ends → (s.ends ≡ Some ends) × ((s.nil ≡ false) × (int_lt ends.high ends.low ≡ false))
shared_parts s ends h = option_and_then_some (λ e. unless (s.nil || int_lt e.high e.low) e) s.ends ends h (λ found is test.
    let parts = by_test found s.nil (int_lt found.high found.low) test in
    (is ∙ ap Some parts.0, (parts.1.0, subst (λ e. int_lt e.high e.low ≡ false) parts.0 parts.1.1)))
  where
    by_test : (found : Interval) (a b : Bool) → unless (a || b) found ≡ Some ends → (found ≡ ends) × ((a ≡ false) × (b ≡ false))
    by_test found false false is = (same_Some found ends is, (refl, refl))
    by_test found a b is = absurd (none-some ends is)

at_most : (x y : ℤ) → int_lt x y ≡ false → y ≤ℤ x
at_most x y h = grind (arith, ints)

no_nil_there : (vs : List Value) → (summary_of_all vs).nil ≡ false → Contains vs Nil → ⊥
no_nil_there vs h at = true≢false (sym ((summary_tells_all vs).nil.1 at) ∙ h)

shared_shows : (vs : List Value) (ends : Interval) → shared_by (summary_of_all vs) ≡ Some ends → MeetBetween vs ends
shared_shows vs ends h =
    let parts = shared_parts (summary_of_all vs) ends h in
    record { no_nil = no_nil_there vs parts.1.0; ends = told_ends vs ends parts.0; points = at_most ends.high ends.low parts.1.1 }

not_nil : (vs : List Value) → (Contains vs Nil → ⊥) → (summary_of_all vs).nil ≡ false
not_nil vs none = ⊎_elim (λ is. absurd (none ((summary_tells_all vs).nil.0 is))) (λ is. is) (cases_Bool (summary_of_all vs).nil)

not_above : (x y : ℤ) → y ≤ℤ x → int_lt x y ≡ false
not_above x y h = grind (arith, ints)

shows_shared : (vs : List Value) (ends : Interval) → MeetBetween vs ends → shared_by (summary_of_all vs) ≡ Some ends
shows_shared vs ends between =
    ap (option_and_then (λ e. unless ((summary_of_all vs).nil || int_lt e.high e.low) e)) (ends_told vs ends between.ends)
    ∙ (λ i. unless (not_nil vs between.no_nil i || not_above ends.high ends.low between.points i) ends)

pub shared_where_meet : (vs : List Value) (s : Summarised) → AreSummarised vs s → 2 ≤ length vs → (ends : Interval) → shared_by s ≡ Some ends → EachTwoValuesMeet vs × MeetBetween vs ends
shared_where_meet vs s summed several ends is =
    let between = shared_shows vs ends (ap shared_by (sym summed.summary) ∙ is) in
    let kind = of_one_kind vs summed.alike in
    ((different_meet_between_ends kind.0 vs several summed.different kind.1).1 (ends, between), between)

pub meet_where_shared : (vs : List Value) (s : Summarised) → AreSummarised vs s → 2 ≤ length vs → EachTwoValuesMeet vs → is_some (shared_by s) ≡ true
meet_where_shared vs s summed several meet =
    let kind = of_one_kind vs summed.alike in
    let between = (different_meet_between_ends kind.0 vs several summed.different kind.1).0 meet in
    ap is_some (ap shared_by summed.summary ∙ shows_shared vs between.0 between.1)

-- ---- verdicts

of_several : (vs : List Value) → 2 ≤ length vs → verdict_of vs ≡ Some (cond (each_meet vs) Consistent Inconsistent)
of_several (v ∷ w ∷ vs) h = refl
of_several vs h = absurd (omega (arith, h))

pub are_several : (vs : List Value) → vs ≢ [] → (length vs ≡ 1 → ⊥) → 2 ≤ length vs
are_several [] some more = absurd (some refl)
are_several (v ∷ []) some more = absurd (more refl)
are_several (v ∷ w ∷ vs) some more = omega arith

pub verdict_by_shared : (vs : List Value) (s : Summarised) (shared : Bool) → AreSummarised vs s → (length vs ≡ 1 → ⊥) → is_some (shared_by s) ≡ shared → verdict_of vs ≡ Some (cond shared Consistent Inconsistent)
verdict_by_shared vs s shared summed more is =
    let several = are_several vs summed.some more in
    of_several vs several
    ∙ ap (λ (b : Bool). Some (cond b Consistent Inconsistent)) (same_from_decides _ _ (each_meet_is vs) (all_meet (shared_by s) several refl, meet_where_shared vs s summed several) ∙ is)
  where
    all_meet : (a : Option Interval) → 2 ≤ length vs → shared_by s ≡ a → is_some (shared_by s) ≡ true → EachTwoValuesMeet vs
    all_meet None several none some = absurd (true≢false (sym some ∙ ap is_some none))
    all_meet (Some ends) several found some = (shared_where_meet vs s summed several ends found).0

-- ---- evidence

pub shared_is_common : (vs : List Value) (s : Summarised) → AreSummarised vs s → 2 ≤ length vs → (ends : Interval) → shared_by s ≡ Some ends → IsCommonOf vs ends
shared_is_common vs s summed several ends is =
    let shown = shared_where_meet vs s summed several ends is in
    record { several = several; each = shown.0; points = shown.1.points; within = λ units. within_ends_is_within_each (intervals_of vs) ends units shown.1.ends }

number_kind : (v : Value) → has_interval v ≡ true → kind_order v ≡ 1
number_kind (Number m d) h = refl
number_kind v h = absurd (true≢false (sym h))

of_number_kind : (v : Value) → kind_order v ≡ 1 → has_interval v ≡ true
of_number_kind (Number m d) h = refl
of_number_kind v h = absurd (omega (arith, h))

not_Nil : (v : Value) → has_interval v ≡ true → v ≢ Nil
not_Nil v h is = true≢false (sym h ∙ ap has_interval is)

all_numbers : (vs : List Value) → AreAlike vs → (Contains vs Nil → ⊥) → list_any has_interval vs ≡ true → (v : Value) → Contains vs v → has_interval v ≡ true
all_numbers vs alike none some v at =
    let found = Any-from_list_any has_interval vs some in
    let there : Contains vs found.1 = (found.0, found.2, found.3) in
    of_number_kind v (alike v found.1 at there (λ is. none (subst (Contains vs) is at)) (not_Nil found.1 found.4) ∙ number_kind found.1 found.4)

begins : (vs : List Value) → 2 ≤ length vs → ((v : Value) → Contains vs v → has_interval v ≡ true) → begin_with_numbers vs ≡ true
begins (v ∷ w ∷ vs) several all = and_from (has_interval v) (has_interval w) (all v (first_there v (w ∷ vs))) (all w (later_there v (w ∷ vs) w (first_there w vs)))
begins vs several all = absurd (omega (arith, several))

shown_numbers : (vs : List Value) (i j : ℕ) → begin_with_numbers vs ≡ true → ((ends : Interval) → AreEnds ends (intervals_of vs) → (i ≡ index_of_least_high ends vs) × (j ≡ index_of_greatest_low ends vs)) → IsShownPair vs i j
shown_numbers vs i j numbers shown = subst (λ b. IsPairOf b vs i j) (sym numbers) shown

shown_first : (vs : List Value) → begin_with_numbers vs ≡ false → IsShownPair vs 0 1
shown_first vs others = subst (λ b. IsPairOf b vs 0 1) (sym others) (refl, refl)

above : (x y : ℤ) → int_lt x y ≡ true → x <ℤ y
above x y h = grind (arith, ints)

some_ends : (vs : List Value) (ends : Interval) → (summary_of_all vs).ends ≡ Some ends → list_any has_interval vs ≡ true
some_ends vs ends is = sym (summary_tells_all vs).number ∙ ap is_some is

pub crossed_are_apart : (vs : List Value) (s : Summarised) → AreSummarised vs s → 2 ≤ length vs → (ends : Interval) → s.ends ≡ Some ends → s.nil ≡ false → shared_by s ≡ None → IsApartPair vs (index_of_least_high ends vs) (index_of_greatest_low ends vs)
crossed_are_apart vs s summed several ends is no_nil apart =
    let told : (summary_of_all vs).ends ≡ Some ends = ap (λ (t : Summarised). t.ends) (sym summed.summary) ∙ is in
    let are = told_ends vs ends told in
    let none = no_nil_there vs (ap (λ (t : Summarised). t.nil) (sym summed.summary) ∙ no_nil) in
    let over = above ends.high ends.low (⊎_elim (λ h. h) crossed (cases_Bool (int_lt ends.high ends.low))) in
    record {
      shown = shown_numbers vs (index_of_least_high ends vs) (index_of_greatest_low ends vs) (begins vs several (all_numbers vs summed.alike none (some_ends vs ends told))) (λ others are_too.
          let same : ends ≡ others = ends_are_one (intervals_of vs) ends others are are_too in
          (ap (λ e. index_of_least_high e vs) same, ap (λ e. index_of_greatest_low e vs) same));
      apart = crossed_ends_are_apart vs ends are over;
    }
  where
    crossed : int_lt ends.high ends.low ≡ false → int_lt ends.high ends.low ≡ true
    crossed h = absurd (none-some ends (sym apart ∙ (λ i. option_and_then (λ e. unless (no_nil i || int_lt e.high e.low) e) (is i)) ∙ ap (λ b. unless b ends) h))

-- ---- the first two values

begins_with_nil : (vs : List Value) → IsSet value_cmp vs → Contains vs Nil → begin_with_numbers vs ≡ false
unfolding IsStrictlySortedBy
begins_with_nil [] rises at = none_there Nil at
begins_with_nil (v ∷ []) rises at = refl
begins_with_nil (v ∷ w ∷ vs) rises at = ⊎_elim (λ is. ap (λ x. has_interval x && has_interval w) is) (λ later. absurd (below_nil v (w ∷ vs) rises.0 later)) (first_or_later v (w ∷ vs) Nil at)
  where
    nothing_below : (x : Value) → value_cmp x Nil ≡ Less → ⊥
    nothing_below Nil h = cc
    nothing_below (Number m d) h = cc
    nothing_below (AText t) h = cc
    nothing_below (AName n) h = cc

    below_nil : (x : Value) (xs : List Value) → AllByRecursion (λ y. value_cmp x y ≡ Less) xs → Contains xs Nil → ⊥
    below_nil x [] below at = none_there Nil at
    below_nil x (y ∷ ys) below at = ⊎_elim (λ is. nothing_below x (ap (value_cmp x) (sym is) ∙ below.0)) (below_nil x ys below.1) (first_or_later y ys Nil at)

begins_with_none : (vs : List Value) → list_any has_interval vs ≡ false → begin_with_numbers vs ≡ false
begins_with_none (v ∷ w ∷ vs) h = by_test (has_interval v) refl
  where
    by_test : (b : Bool) → has_interval v ≡ b → (has_interval v && has_interval w) ≡ false
    by_test true is = absurd (true≢false (sym (ap (λ (b : Bool). b || (has_interval w || list_any has_interval vs)) is) ∙ h))
    by_test false is = ap (λ (b : Bool). b && has_interval w) is
begins_with_none vs h = refl

first_two : (vs : List Value) → 2 ≤ length vs → AreDifferent vs → begin_with_numbers vs ≡ false → AreApart vs 0 1
first_two (v ∷ w ∷ vs) several different others = record {
  first = v;
  second = w;
  first_there = refl;
  second_there = refl;
  apart = λ meet.
      let numbers = different_meet_as_numbers v w (different 0 1 v (omega arith) (omega arith)) meet in
      true≢false (sym (and_from (has_interval v) (has_interval w) numbers.0 numbers.1) ∙ others);
}
first_two vs several different others = absurd (omega (arith, several))

pub first_are_apart : (vs : List Value) → 2 ≤ length vs → AreDifferent vs → begin_with_numbers vs ≡ false → IsApartPair vs 0 1
first_are_apart vs several different others = record { shown = shown_first vs others; apart = first_two vs several different others }

pub nil_is_apart : (vs : List Value) (s : Summarised) → AreSummarised vs s → 2 ≤ length vs → s.nil ≡ true → IsApartPair vs 0 1
nil_is_apart vs s summed several nil =
    let at = (summary_tells_all vs).nil.0 (ap (λ (t : Summarised). t.nil) (sym summed.summary) ∙ nil) in
    first_are_apart vs several summed.different (begins_with_nil vs summed.in_order at)

pub no_number_is_apart : (vs : List Value) (s : Summarised) → AreSummarised vs s → 2 ≤ length vs → s.ends ≡ None → IsApartPair vs 0 1
no_number_is_apart vs s summed several none =
    first_are_apart vs several summed.different (begins_with_none vs (sym (summary_tells_all vs).number ∙ ap is_some (ap (λ (t : Summarised). t.ends) (sym summed.summary) ∙ none)))
