-- The ends of several intervals.
use Rattle.oim_value.proofs.Shared.{◌≡◌, ℕ, ◌<◌, true, false, cond, List, [], ◌∷◌, length, get_or, refl, sym, ap, subst, ◌∙◌, arith, inl, inr, ◌⊎◌, ℤ, ◌≤ℤ◌, int_le, int_lt, int_max, int_min, All, Any, cases_lt, and_parts, and_from, ints, clamps, get_or_default, All-cons, All-nil, All-weaker, HasPoints, IsWithin, common_part, Interval, AreEnds, EachTwoMeet, AllMeetIffEndsMeet, EndsExist, EndsAreOne, WithinEndsIsWithinEach, EndsAreCommonInterval}
use Rattle.oim_value.proofs.Members.{some_first, some_later}

-- ---- every two intervals meet

pub le_from : (x y : ℤ) → int_le x y ≡ true → x ≤ℤ y
le_from x y h = grind (arith, ints)

pub le_to : (x y : ℤ) → x ≤ℤ y → int_le x y ≡ true
le_to x y h = grind (arith, ints)

-- if no interval is empty and every two meet, every low end is at most every high end
crossed : (is : List Interval) (d : Interval) → All HasPoints is → EachTwoMeet is → (i j : ℕ) → i < length is → j < length is → (get_or is i d).low ≤ℤ (get_or is j d).high
crossed is d points meet i j li lj = elim (cases_lt i j) [
  | inl under ↦ le_from _ _ (and_parts (int_le (get_or is i d).low (get_or is j d).high) (int_le (get_or is j d).low (get_or is i d).high) (meet i j d under lj)).0
  | inr over ↦ elim (cases_lt j i) [
    | inl above ↦ le_from _ _ (and_parts (int_le (get_or is j d).low (get_or is i d).high) (int_le (get_or is i d).low (get_or is j d).high) (meet j i d above li)).1
    | inr same ↦ let is_same : i ≡ j = omega (arith, over, same) in subst (λ k. (get_or is i d).low ≤ℤ (get_or is k d).high) is_same (points i d li)
  ]
]

chain : {w x y z : ℤ} → w ≤ℤ x → x ≤ℤ y → y ≤ℤ z → w ≤ℤ z
chain p q r = omega (arith, ints, p, q, r)

pub all_meet_iff_ends_meet : AllMeetIffEndsMeet
all_meet_iff_ends_meet is e points ends = (
  λ meet.
      let a = ends.low_reached in
      let b = ends.high_reached in
      let d : Interval = a.1 in
      let low : (get_or is a.0 d).low ≡ e.low = ap (λ (i : Interval). i.low) a.3 ∙ a.4 in
      let high : (get_or is b.0 d).high ≡ e.high = ap (λ (i : Interval). i.high) (get_or_default is b.0 d b.1 b.2 ∙ b.3) ∙ b.4 in
      subst (λ z. e.low ≤ℤ z) high (subst (λ z. z ≤ℤ (get_or is b.0 d).high) low (crossed is d points meet a.0 b.0 a.2 b.2)),
  λ le i j d under within.
      let li : i < length is = omega (arith, under, within) in
      and_from _ _
      (le_to _ _ (chain (ends.low_greatest i d li) le (ends.high_least j d within)))
      (le_to _ _ (chain (ends.low_greatest j d within) le (ends.high_least i d li))),
)

-- ---- the ends exist

pub ends_of_one : (i : Interval) → AreEnds i (i ∷ [])
ends_of_one i = record {
  low_reached = some_first (λ j. j.low ≡ i.low) i [] refl;
  low_greatest = All-cons (λ j. j.low ≤ℤ i.low) i [] (omega (arith, ints)) (All-nil (λ j. j.low ≤ℤ i.low));
  high_reached = some_first (λ j. j.high ≡ i.high) i [] refl;
  high_least = All-cons (λ j. i.high ≤ℤ j.high) i [] (omega (arith, ints)) (All-nil (λ j. i.high ≤ℤ j.high));
}

reached : (f : Interval → ℤ) (i : Interval) (is : List Interval) (z w : ℤ) → (z ≡ f i) ⊎ (z ≡ w) → Any (λ j. f j ≡ w) is → Any (λ j. f j ≡ z) (i ∷ is)
reached f i is z w one there = elim one [
  | inl e ↦ some_first (λ j. f j ≡ z) i is (sym e)
  | inr e ↦ some_later (λ j. f j ≡ z) i is (there.0, there.1, there.2, there.3, there.4 ∙ sym e)
]

which_max : (x y : ℤ) → (int_max x y ≡ x) ⊎ (int_max x y ≡ y)
which_max x y = elim (int_lt y x) as (λ b. (cond b x y ≡ x) ⊎ (cond b x y ≡ y)) [ true ↦ inl refl | false ↦ inr refl ]

which_min : (x y : ℤ) → (int_min x y ≡ x) ⊎ (int_min x y ≡ y)
which_min x y = elim (int_lt y x) as (λ b. (cond b y x ≡ x) ⊎ (cond b y x ≡ y)) [ true ↦ inr refl | false ↦ inl refl ]

pub ends_of_more : (i e : Interval) (is : List Interval) → AreEnds e is → AreEnds (common_part i e) (i ∷ is)
ends_of_more i e is ends = record {
  low_reached = reached (λ j. j.low) i is (int_max i.low e.low) e.low (which_max i.low e.low) ends.low_reached;
  low_greatest = All-cons (λ j. j.low ≤ℤ int_max i.low e.low) i is (omega (arith, ints, clamps)) (All-weaker (λ j. j.low ≤ℤ e.low) (λ j. j.low ≤ℤ int_max i.low e.low) (λ j p. omega (arith, ints, clamps, p)) is ends.low_greatest);
  high_reached = reached (λ j. j.high) i is (int_min i.high e.high) e.high (which_min i.high e.high) ends.high_reached;
  high_least = All-cons (λ j. int_min i.high e.high ≤ℤ j.high) i is (omega (arith, ints, clamps)) (All-weaker (λ j. e.high ≤ℤ j.high) (λ j. int_min i.high e.high ≤ℤ j.high) (λ j p. omega (arith, ints, clamps, p)) is ends.high_least);
}

pub ends_exist : EndsExist
ends_exist [] some = absurd (omega (arith, some))
ends_exist (i ∷ []) some = (i, ends_of_one i)
ends_exist (i ∷ j ∷ is) some = let rest = ends_exist (j ∷ is) (omega arith) in (common_part i rest.0, ends_of_more i rest.0 (j ∷ is) rest.1)

-- ---- the ends are unique

pub one_number : {x y : ℤ} → x ≤ℤ y → y ≤ℤ x → x ≡ y
one_number p q = omega (arith, ints, p, q)

one_interval : (d e : Interval) → d.low ≡ e.low → d.high ≡ e.high → d ≡ e
one_interval d e low high = λ i. record { low = low i; high = high i }

at_reached : (P Q : Interval → Type 0) (is : List Interval) → Any P is → All Q is → (i : Interval) × P i × Q i
at_reached P Q is some each = (some.1, some.4, subst Q some.3 (each some.0 some.1 some.2))

low_most : (d e : Interval) (is : List Interval) → AreEnds d is → AreEnds e is → d.low ≤ℤ e.low
low_most d e is ds es = let at = at_reached (λ i. i.low ≡ d.low) (λ i. i.low ≤ℤ e.low) is ds.low_reached es.low_greatest in subst (λ z. z ≤ℤ e.low) at.1 at.2

high_most : (d e : Interval) (is : List Interval) → AreEnds d is → AreEnds e is → e.high ≤ℤ d.high
high_most d e is ds es = let at = at_reached (λ i. i.high ≡ d.high) (λ i. e.high ≤ℤ i.high) is ds.high_reached es.high_least in subst (λ z. e.high ≤ℤ z) at.1 at.2

pub ends_are_one : EndsAreOne
ends_are_one is d e ds es = one_interval d e (one_number (low_most d e is ds es) (low_most e d is es ds)) (one_number (high_most e d is es ds) (high_most d e is ds es))

-- ---- numbers between the ends

pub within_ends_is_within_each : WithinEndsIsWithinEach
within_ends_is_within_each is e z ends = (
  λ within k d lt. record { above = omega (arith, ints, ends.low_greatest k d lt, within.above); below = omega (arith, ints, ends.high_least k d lt, within.below) },
  λ each.
      let low = at_reached (λ i. i.low ≡ e.low) (IsWithin z) is ends.low_reached each in
      let high = at_reached (λ i. i.high ≡ e.high) (IsWithin z) is ends.high_reached each in
      record { above = subst (λ w. w ≤ℤ z) low.1 low.2.above; below = subst (λ w. z ≤ℤ w) high.1 high.2.below },
)

same_points : (d e : Interval) → HasPoints d → ((z : ℤ) → IsWithin z d → IsWithin z e) → ((z : ℤ) → IsWithin z e → IsWithin z d) → d ≡ e
same_points d e some to from =
    let low = to d.low (record { above = omega (arith, ints); below = some }) in
    let high = to d.high (record { above = some; below = omega (arith, ints) }) in
    let some_e : e.low ≤ℤ e.high = chain low.above some high.below in
    let low_back = from e.low (record { above = omega (arith, ints); below = some_e }) in
    let high_back = from e.high (record { above = some_e; below = omega (arith, ints) }) in
    one_interval d e (one_number low_back.above low.above) (one_number high.below high_back.below)

pub ends_are_common_interval : EndsAreCommonInterval
ends_are_common_interval is e some points same =
    let there = ends_exist is some in
    let is_end : e ≡ there.0 = same_points e there.0 points (λ z h. (within_ends_is_within_each is there.0 z there.1).1 ((same z).0 h)) (λ z h. (same z).1 ((within_ends_is_within_each is there.0 z there.1).0 h)) in
    subst (λ i. AreEnds i is) (sym is_end) there.1
