-- Every two of several different values meet exactly if all are numbers, and the greatest low end is at most the least high end.
use Rattle.oim_value.proofs.Shared.{◌≡◌, ℕ, zero, suc, ◌<◌, ◌≤◌, Bool, true, false, List, [], ◌∷◌, length, map, get_or, refl, sym, ap, subst, ◌∙◌, arith, inl, inr, true≢false, ◌≢◌, ◌⊎◌, IsTrue, ℤ, pos, None, int_le, All, Any, position_or_len, Ordering, Less, Equal, AllPairs-cons, cases_lt, and_parts, Decides-int_eq, ints, get_or_default, get_or-map, length-map, fails_before_first, passes_at_first, Interval, Value, Nil, Number, AText, AName, AreEnds, EachTwoMeet, intervals_of, has_interval, HasPoints, interval, intervals_meet, Meets, kind_order, value_cmp, All-head, All-tail}
use Rattle.std.specs.List.Sorted.{IsStrictlySortedBy}
use Rattle.std.proofs.lemmas.Map.Keys.{sorted_tail}
use Rattle.std.proofs.lemmas.Map.Views.{All-after_first}
use Rattle.std.proofs.lemmas.Option.{slice_get-get_or}
use Rattle.oim_value.specs.SeveralMeet.{EachTwoMeetByMembers, AreDifferent, AreNilOrOfKind, EachTwoValuesMeet, MeetBetween, DifferentMeetAsNumbers, DifferentMeetBetweenEnds, has_low, has_high, index_of_greatest_low, index_of_least_high, CrossedEndsAreApart}
use Rattle.oim_value.proofs.Ends.{all_meet_iff_ends_meet, ends_exist, le_from}
use Rattle.oim_value.proofs.Intervals.{interval_has_points}
use Rattle.oim_value.proofs.Meeting.{meets_is_reflexive, meets_is_symmetric}
use Rattle.oim_value.proofs.ValueOrders.{value_cmp_self}

-- ---- different values that meet are numbers

pub different_meet_as_numbers : DifferentMeetAsNumbers
different_meet_as_numbers Nil Nil other meet = absurd (other refl)
different_meet_as_numbers (Number m d) (Number n e) other meet = (refl, refl)
different_meet_as_numbers (AText s) (AText t) other meet = absurd (other (ap AText meet))
different_meet_as_numbers (AName m) (AName n) other meet = absurd (other (ap AName meet))
different_meet_as_numbers v w other meet = absurd meet

-- ---- each value meets each later one exactly if every two members meet

pub each_two_meet_by_members : EachTwoMeetByMembers
each_two_meet_by_members vs = (
  λ meet x y at_x at_y. elim (cases_lt at_x.0 at_y.0) [
    | inl before ↦ pair Meets x y x (meet at_x.0 at_y.0 x before at_y.1) at_x.2 (get_or_default vs at_y.0 x y at_y.1 ∙ at_y.2)
    | inr not_before ↦ elim (cases_lt at_y.0 at_x.0) [
      | inl after ↦ meets_is_symmetric y x (pair Meets y x x (meet at_y.0 at_x.0 x after at_x.1) (get_or_default vs at_y.0 x y at_y.1 ∙ at_y.2) at_x.2)
      | inr not_after ↦ let same : at_y.0 ≡ at_x.0 = omega (arith, not_before, not_after) in
          subst (Meets x) (sym at_x.2 ∙ ap (λ k. get_or vs k x) (sym same) ∙ get_or_default vs at_y.0 x y at_y.1 ∙ at_y.2) (meets_is_reflexive x)
    ]
  ],
  λ any i j d under within.
      let li : i < length vs = omega (arith, under, within) in
      any (get_or vs i d) (get_or vs j d) (i, li, get_or_default vs i (get_or vs i d) d li) (j, within, get_or_default vs j (get_or vs j d) d within),
)
  where
    pair : (R : Value → Value → Type 0) (x y d : Value) {a b : Value} → R a b → a ≡ x → b ≡ y → R x y
    pair R x y d r p q = subst (λ v. R v y) p (subst (R _) q r)

-- ---- numbers and their intervals

-- the interval of a value, or the interval of 0 if the value is not a number
abbrev interval_at : Value → Interval
interval_at (Number m d) = interval m d
interval_at other = interval (pos 0) None

points_at : (v : Value) → HasPoints (interval_at v)
points_at (Number m d) = interval_has_points m d
points_at v = interval_has_points (pos 0) None

abbrev IsNumber : Value → Type 0
IsNumber v = IsTrue (has_interval v)

no_number : {b : Bool} {A : Type 0} → b ≡ true → b ≡ false → A
no_number is_so not_so = absurd (true≢false (sym is_so ∙ not_so))

meet_to : (x y : Value) → IsNumber x → IsNumber y → Meets x y → IsTrue (intervals_meet (interval_at x) (interval_at y))
meet_to (Number m d) (Number n e) p q meet = meet
meet_to (Number m d) v p q meet = no_number q refl
meet_to v y p q meet = no_number p refl

meet_from : (x y : Value) → IsNumber x → IsNumber y → IsTrue (intervals_meet (interval_at x) (interval_at y)) → Meets x y
meet_from (Number m d) (Number n e) p q meet = meet
meet_from (Number m d) v p q meet = no_number q refl
meet_from v y p q meet = no_number p refl

intervals_are : (vs : List Value) → All IsNumber vs → intervals_of vs ≡ map interval_at vs
intervals_are [] all = refl
intervals_are (Number m d ∷ vs) all = ap (λ is. interval m d ∷ is) (intervals_are vs (All-tail IsNumber (Number m d) vs all))
intervals_are (Nil ∷ vs) all = no_number (All-head IsNumber Nil vs all) refl
intervals_are (AText t ∷ vs) all = no_number (All-head IsNumber (AText t) vs all) refl
intervals_are (AName n ∷ vs) all = no_number (All-head IsNumber (AName n) vs all) refl

all_points : (vs : List Value) → All HasPoints (map interval_at vs)
all_points vs k d lt = subst HasPoints (sym (get_or-map interval_at vs k Nil d (omega (arith, lt, length-map vs interval_at)))) (points_at (get_or vs k Nil))

meets_at : (vs : List Value) (d : Interval) (i j : ℕ) → i < length vs → j < length vs → IsTrue (intervals_meet (interval_at (get_or vs i Nil)) (interval_at (get_or vs j Nil))) ≡ IsTrue (intervals_meet (get_or (map interval_at vs) i d) (get_or (map interval_at vs) j d))
meets_at vs d i j li lj = λ k. IsTrue (intervals_meet (sym (get_or-map interval_at vs i Nil d li) k) (sym (get_or-map interval_at vs j Nil d lj) k))

each_two_to : (vs : List Value) → All IsNumber vs → EachTwoValuesMeet vs → EachTwoMeet (map interval_at vs)
each_two_to vs all meet i j d under within =
    let lj : j < length vs = omega (arith, within, length-map vs interval_at) in
    let li : i < length vs = omega (arith, under, lj) in
    subst (λ (A : Type 0). A) (meets_at vs d i j li lj) (meet_to (get_or vs i Nil) (get_or vs j Nil) (all i Nil li) (all j Nil lj) (meet i j Nil under lj))

each_two_from : (vs : List Value) → All IsNumber vs → EachTwoMeet (map interval_at vs) → EachTwoValuesMeet vs
each_two_from vs all meet i j d under lj =
    let li : i < length vs = omega (arith, under, lj) in
    let inside : j < length (map interval_at vs) = omega (arith, lj, length-map vs interval_at) in
    let here = meet i j (interval_at d) under inside in
    meet_from (get_or vs i d) (get_or vs j d) (all i d li) (all j d lj) (rw (get_or-map interval_at vs i d (interval_at d) li, get_or-map interval_at vs j d (interval_at d) lj) at here)

-- ---- each interval belongs to one of the values

record Found (P : Interval → Type 0) (vs : List Value) : Type 0 where
  index : ℕ
  within : index < length vs
  number : IsNumber (get_or vs index Nil)
  holds : P (interval_at (get_or vs index Nil))

behind : (P : Interval → Type 0) (v : Value) (vs : List Value) → Found P vs → Found P (v ∷ vs)
behind P v vs f = record { index = suc f.index; within = omega (arith, f.within); number = f.number; holds = f.holds }

found_at : (P : Interval → Type 0) (vs : List Value) (k : ℕ) (x : Interval) → k < length (intervals_of vs) → get_or (intervals_of vs) k x ≡ x → P x → Found P vs
found_at P [] k x lt is p = absurd (omega (arith, lt))
found_at P (Nil ∷ vs) k x lt is p = behind P Nil vs (found_at P vs k x lt is p)
found_at P (Number m d ∷ vs) zero x lt is p = record { index = zero; within = omega arith; number = refl; holds = subst P (sym is) p }
found_at P (Number m d ∷ vs) (suc k) x lt is p = behind P (Number m d) vs (found_at P vs k x (omega (arith, lt)) is p)
found_at P (AText t ∷ vs) k x lt is p = behind P (AText t) vs (found_at P vs k x lt is p)
found_at P (AName n ∷ vs) k x lt is p = behind P (AName n) vs (found_at P vs k x lt is p)

found : (P : Interval → Type 0) (vs : List Value) → Any P (intervals_of vs) → Found P vs
found P vs a = found_at P vs a.0 a.1 a.2 a.3 a.4

-- ---- when every two of several different values meet

all_numbers : (vs : List Value) → 2 ≤ length vs → AreDifferent vs → EachTwoValuesMeet vs → All IsNumber vs
all_numbers vs two different meet zero d lt = (different_meet_as_numbers (get_or vs 0 d) (get_or vs 1 d) (different 0 1 d (omega arith) (omega (arith, two))) (meet 0 1 d (omega arith) (omega (arith, two)))).0
all_numbers vs two different meet (suc k) d lt = (different_meet_as_numbers (get_or vs 0 d) (get_or vs (suc k) d) (different 0 (suc k) d (omega arith) lt) (meet 0 (suc k) d (omega arith) lt)).1

of_numbers : (v : Value) → kind_order v ≡ 1 → IsNumber v
of_numbers (Number m d) e = refl
of_numbers v e = absurd (omega (arith, e))

kind_of_number : (v : Value) → IsNumber v → kind_order v ≡ 1
kind_of_number (Number m d) p = refl
kind_of_number v p = no_number p refl

kind_there : (kind : ℕ) (v : Value) → (v ≡ Nil → ⊥) → (v ≡ Nil) ⊎ (kind_order v ≡ kind) → kind_order v ≡ kind
kind_there kind v some either = elim either [ inl e ↦ absurd (some e) | inr e ↦ e ]

one_kind : (kind : ℕ) (vs : List Value) (e : Interval) → AreNilOrOfKind kind vs → MeetBetween vs e → All IsNumber vs
one_kind kind vs e alike between k d lt =
    let f = found (λ i. i.low ≡ e.low) vs between.ends.low_reached in
    let some_nil : (j : ℕ) (c : Value) → j < length vs → get_or vs j c ≡ Nil → ⊥ = λ j c lj is. between.no_nil (j, lj, get_or_default vs j Nil c lj ∙ is) in
    let numbers : kind ≡ 1 = sym (kind_there kind (get_or vs f.index Nil) (some_nil f.index Nil f.within) (alike f.index Nil f.within)) ∙ kind_of_number (get_or vs f.index Nil) f.number in
    of_numbers (get_or vs k d) (kind_there kind (get_or vs k d) (some_nil k d lt) (alike k d lt) ∙ numbers)

pub different_meet_between_ends : DifferentMeetBetweenEnds
different_meet_between_ends kind vs two different alike = (
  λ meet.
      let all = all_numbers vs two different meet in
      let e = ends_exist (map interval_at vs) (omega (arith, two, length-map vs interval_at)) in (
        e.0,
        record {
          no_nil = λ nil. no_number (all nil.0 Nil nil.1) (ap has_interval nil.2);
          ends = subst (AreEnds e.0) (sym (intervals_are vs all)) e.1;
          points = (all_meet_iff_ends_meet (map interval_at vs) e.0 (all_points vs) e.1).0 (each_two_to vs all meet);
        },
      ),
  λ between.
      let all = one_kind kind vs between.0 alike between.1 in
      each_two_from vs all ((all_meet_iff_ends_meet (map interval_at vs) between.0 (all_points vs) (subst (AreEnds between.0) (intervals_are vs all) between.1.ends)).1 between.1.points),
)

-- ---- the greatest low end is above the least high end

first_index : (p : Value → Bool) (vs : List Value) (k : ℕ) → k < length vs → p (get_or vs k Nil) ≡ true → position_or_len p vs < length vs
first_index p vs k lt is_so = elim (cases_lt (position_or_len p vs) (length vs)) [
  | inl inside ↦ inside
  | inr past ↦ no_number is_so (fails_before_first p vs k Nil (omega (arith, past, lt)))
]

high_to : (z : ℤ) (v : Value) → IsNumber v → (interval_at v).high ≡ z → has_high z v ≡ true
high_to z (Number m d) p is = (Decides-int_eq (interval m d).high z).1 is
high_to z v p is = no_number p refl

high_from : (z : ℤ) (v : Value) → has_high z v ≡ true → IsNumber v × ((interval_at v).high ≡ z)
high_from z (Number m d) h = (refl, (Decides-int_eq (interval m d).high z).0 h)
high_from z v h = no_number h refl

low_to : (z : ℤ) (v : Value) → IsNumber v → (interval_at v).low ≡ z → has_low z v ≡ true
low_to z (Number m d) p is = (Decides-int_eq (interval m d).low z).1 is
low_to z v p is = no_number p refl

low_from : (z : ℤ) (v : Value) → has_low z v ≡ true → IsNumber v × ((interval_at v).low ≡ z)
low_from z (Number m d) h = (refl, (Decides-int_eq (interval m d).low z).0 h)
low_from z v h = no_number h refl

pub crossed_ends_are_apart : CrossedEndsAreApart
crossed_ends_are_apart vs e ends over =
    let h = found (λ i. i.high ≡ e.high) vs ends.high_reached in
    let l = found (λ i. i.low ≡ e.low) vs ends.low_reached in
    let i : ℕ = index_of_least_high e vs in
    let j : ℕ = index_of_greatest_low e vs in
    let li : i < length vs = first_index (has_high e.high) vs h.index h.within (high_to e.high (get_or vs h.index Nil) h.number h.holds) in
    let lj : j < length vs = first_index (has_low e.low) vs l.index l.within (low_to e.low (get_or vs l.index Nil) l.number l.holds) in
    let high = high_from e.high (get_or vs i Nil) (passes_at_first (has_high e.high) vs Nil li) in
    let low = low_from e.low (get_or vs j Nil) (passes_at_first (has_low e.low) vs Nil lj) in
    record {
      first = get_or vs i Nil;
      second = get_or vs j Nil;
      first_there = slice_get-get_or vs i Nil li;
      second_there = slice_get-get_or vs j Nil lj;
      apart = λ meet.
          let a : Interval = interval_at (get_or vs i Nil) in
          let b : Interval = interval_at (get_or vs j Nil) in
          let under = le_from b.low a.high (and_parts (int_le a.low b.high) (int_le b.low a.high) (meet_to (get_or vs i Nil) (get_or vs j Nil) high.0 low.0 meet)).1 in
          absurd (omega (arith, ints, under, high.1, low.1, over));
    }

-- ---- ascending values are different

pub rising_are_different : (vs : List Value) → IsStrictlySortedBy value_cmp vs → AreDifferent vs
rising_are_different [] rises = λ i j d under within. absurd (omega (arith, within))
rising_are_different (v ∷ vs) rises =
    let below = All-after_first value_cmp v vs rises in
    AllPairs-cons (λ x y. x ≢ y) v vs
    (λ k d lt same. less_is_other (value_cmp v v) (ap (value_cmp v) same ∙ below k d lt) (value_cmp_self v))
    (rising_are_different vs (sorted_tail value_cmp v vs rises))
  where
    less_is_other : (r : Ordering) → r ≡ Less → r ≡ Equal → ⊥
    less_is_other r less equal = cc
