-- The verdict on a dimension set is `Inconsistent` exactly if two of its values do not meet.
use Rattle.fact_base.proofs.Shared.{◌≡◌, Bool, true, false, cond, List, [], ◌∷◌, Some, refl, sym, ap, subst, ◌∙◌, ⊎_elim, true≢false, and_cases, iff_false, same_Some, Contains, ◌↔◌, list_all, Meets, Value, each_two_meet_by_members, values_meet, values_meet_is_meets, values_at, InconsistentIsApart, each_meet, verdict_of, Consistent, Inconsistent, All-contains, Equal-is, unwrap_or, is_eq, Nil, Number, AText, AName, DimensionSet, dimensions_cmp, Fact, dimensions_cmp_exact, FactFits, ValueFits, Sheet, Numeric, Body, Fits}
use Rattle.oim_value.proofs.Meeting.{meets_is_reflexive}
use Rattle.fact_base.proofs.Summaries.{each_meet_is}
use Rattle.fact_base.proofs.Members.{first_or_later, first_there, later_there, none_there}
use Rattle.std.specs.FinMap as map
use Rattle.oim_value.specs.Interval.{interval}
use Rattle.oim_value.proofs.Intervals.{interval_has_points, meets_by_common_point}
use Rattle.fact_base.specs.Contradiction.{Contradict, IsNumeric, NumericInconsistentIsApart}

abbrev Apart : List Value → Type 0
Apart vs = (v w : Value) × (Contains vs v × (Contains vs w × ¬ (Meets v w)))

apart_later : (x : Value) (vs : List Value) → Apart vs → Apart (x ∷ vs)
apart_later x vs found = (found.0, found.1, (later_there x vs found.0 found.2.0, (later_there x vs found.1 found.2.1.0, found.2.1.1)))

apart_from_one : (v : Value) (ws : List Value) → list_all (values_meet v) ws ≡ false → (w : Value) × (Contains ws w × ¬ (Meets v w))
apart_from_one v [] h = absurd (true≢false h)
apart_from_one v (w ∷ ws) h = ⊎_elim
    (λ here. (w, (first_there w ws, iff_false (values_meet_is_meets v w) here)))
    (λ later. let found = apart_from_one v ws later in (found.0, (later_there w ws found.0 found.1.0, found.1.1)))
    (and_cases (values_meet v w) (list_all (values_meet v) ws) h)

two_apart : (vs : List Value) → each_meet vs ≡ false → Apart vs
two_apart [] h = absurd (true≢false h)
two_apart (v ∷ vs) h = ⊎_elim
    (λ here. let found = apart_from_one v vs here in (v, found.0, (first_there v vs, (later_there v vs found.0 found.1.0, found.1.1))))
    (λ later. apart_later v vs (two_apart vs later))
    (and_cases (list_all (values_meet v) vs) (each_meet vs) h)

by_verdict : (vs : List Value) → verdict_of vs ≡ Some Inconsistent → Apart vs
by_verdict [] h = cc
by_verdict (v ∷ []) h = cc
by_verdict (v ∷ w ∷ vs) h = two_apart (v ∷ w ∷ vs) (tested (each_meet (v ∷ w ∷ vs)) (same_Some _ _ h))
  where
    tested : (b : Bool) → cond b Consistent Inconsistent ≡ Inconsistent → b ≡ false
    tested true is = cc
    tested false is = refl

by_pair : (vs : List Value) → Apart vs → verdict_of vs ≡ Some Inconsistent
by_pair [] found = none_there found.0 found.2.0
by_pair (x ∷ []) found =
    let first : x ≡ found.0 = only found.0 found.2.0 in
    let second : x ≡ found.1 = only found.1 found.2.1.0 in
    absurd (found.2.1.1 (subst (Meets found.0) (sym first ∙ second) (meets_is_reflexive found.0)))
  where
    only : (y : Value) → Contains (x ∷ []) y → x ≡ y
    only y at = ⊎_elim (λ is. is) (none_there y) (first_or_later x [] y at)
by_pair (x ∷ y ∷ vs) found = by_test (each_meet (x ∷ y ∷ vs)) refl
  where
    by_test : (b : Bool) → each_meet (x ∷ y ∷ vs) ≡ b → Some (cond (each_meet (x ∷ y ∷ vs)) Consistent Inconsistent) ≡ Some Inconsistent
    by_test false is = ap (λ (b : Bool). Some (cond b Consistent Inconsistent)) is
    by_test true is = absurd (found.2.1.1 ((each_two_meet_by_members (x ∷ y ∷ vs)).0 ((each_meet_is (x ∷ y ∷ vs)).0 is) found.0 found.1 found.2.0 found.2.1.0))

pub inconsistent_is_apart : InconsistentIsApart
inconsistent_is_apart facts s = (by_verdict (values_at s facts), by_pair (values_at s facts))

-- ---- in a body that fits a sheet, two values of a numeric dimension set contradict each other exactly if they do not meet

abbrev HasFact : DimensionSet → Value → List Fact → Type 0
HasFact s v fs = (f : Fact) × (Contains fs f × ((s ≡ f.dimensions) × (f.value ≡ v)))

fact_of_value : (s : DimensionSet) (fs : List Fact) (v : Value) → Contains (values_at s fs) v → HasFact s v fs
fact_of_value s [] v at = none_there v at
fact_of_value s (f ∷ fs) v at = by_test (λ there. fact_of_value s fs v there) (is_eq (dimensions_cmp s f.dimensions)) refl at
  where
    later : (Contains (values_at s fs) v → HasFact s v fs) → Contains (values_at s fs) v → HasFact s v (f ∷ fs)
    later rest there = let found = rest there in (found.0, (later_there f fs found.0 found.1.0, found.1.1))

    by_test : (Contains (values_at s fs) v → HasFact s v fs) → (b : Bool) → is_eq (dimensions_cmp s f.dimensions) ≡ b → Contains (cond b (f.value ∷ values_at s fs) (values_at s fs)) v → HasFact s v (f ∷ fs)
    by_test rest true is here = ⊎_elim (λ this. (f, (first_there f fs, (dimensions_cmp_exact s f.dimensions ((Equal-is (dimensions_cmp s f.dimensions)).0 is), this)))) (later rest) (first_or_later f.value (values_at s fs) v here)
    by_test rest false is there = later rest there

numeric_value : (sheet : Sheet) (b : Body) (s : DimensionSet) → Fits sheet b → IsNumeric sheet s → (v : Value) → Contains (values_at s b.facts) v → ValueFits Numeric v
numeric_value sheet b s fits numeric v at =
    let found = fact_of_value s b.facts v at in
    let fact = All-contains (FactFits sheet) b.facts found.0 fits.facts found.1.0 in
    let listed : Some fact.kind ≡ Some Numeric = sym fact.listed ∙ ap (λ (d : DimensionSet). map.get sheet.concepts d.concept) (sym found.1.1.0) ∙ numeric in
    subst (ValueFits Numeric) found.1.1.1 (subst (λ k. ValueFits k found.0.value) (ap (λ o. unwrap_or o Numeric) listed) fact.value)

contradict_is_apart : (v w : Value) → ValueFits Numeric v → ValueFits Numeric w → (¬ (Meets v w)) ↔ Contradict v w
contradict_is_apart Nil Nil f g = (λ apart. apart tt, λ no m. no)
contradict_is_apart Nil (Number n e) f g = (λ apart. tt, λ is m. m)
contradict_is_apart (Number m d) Nil f g = (λ apart. tt, λ is m. m)
contradict_is_apart (Number m d) (Number n e) f g =
    let meets = meets_by_common_point (interval m d) (interval n e) (interval_has_points m d) (interval_has_points n e) in
    (λ apart common. apart (meets.1 common), λ none meet. none (meets.0 meet))
contradict_is_apart (AText t) w f g = absurd f
contradict_is_apart (AName n) w f g = absurd f
contradict_is_apart v w f g = absurd g

pub numeric_inconsistent_is_apart : NumericInconsistentIsApart
numeric_inconsistent_is_apart sheet b s fits numeric =
    let fit = numeric_value sheet b s fits numeric in
    let is = inconsistent_is_apart b.facts s in (
      λ inconsistent.
          let found = is.0 inconsistent in
          record {
            first = found.0;
            second = found.1;
            first_there = found.2.0;
            second_there = found.2.1.0;
            contradict = (contradict_is_apart found.0 found.1 (fit found.0 found.2.0) (fit found.1 found.2.1.0)).0 found.2.1.1;
          },
      λ h. is.1 (h.first, h.second, (h.first_there, (h.second_there, (contradict_is_apart h.first h.second (fit h.first h.first_there) (fit h.second h.second_there)).1 h.contradict))),
    )
