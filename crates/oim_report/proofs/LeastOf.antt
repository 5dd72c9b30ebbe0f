-- Of the reasons that apply, the first in `reasons` has the smallest number, and `told` lists it first.
use Rattle.oim_report.proofs.Shared.{◌≡◌, ◌⊎◌, inl, inr, ⊎_elim, ℕ, zero, suc, ◌+◌, ◌≤◌, ◌<◌, List, [], ◌∷◌, length, map, slice_index, Contains, Bool, true, false, not, ◌||◌, cond, subst, refl, sym, ap, ◌∙◌, arith, ◌↔◌, ◌==◌, ◌&&◌, Option, Some, None, IsTrue, filter, find, option_map_or, list_any, IsStrictlyIncreasing, or_parts, and_parts, or_from, All-contains, filter_passes, IsStrictlyIncreasing-filter, nat_tests, Reason, OutOfMemory, NotJson, MemberForm, UnknownMember, DocumentType, Namespace, BaseUrl, TaxonomyUrl, Feature, Links, Notes, DimensionsMissing, NameForm, UnboundPrefix, ReservedNamespace, MissingConcept, UnknownConcept, UnknownDimension, DimensionValue, PeriodForm, PeriodOrder, UnitForm, UnitOnOther, LanguageForm, LanguageOnNumeric, ValueForm, NumberForm, NumberDigits, DecimalsForm, DecimalsRange, DecimalsOnOther, DisallowedDuplicates, SheetKind, later_there}
use Rattle.oim_names.specs.Reasons.{entry_of, reasons}
use Rattle.oim_report.specs.Least.{IsLeast, IsShown, LeastIsAnswered, first, hidden_by, least, told}
use Rattle.oim_report.proofs.EachRefusal.{behind_test}

abbrev number : Reason → ℕ
number r = (entry_of r).number

abbrev nth : List Reason → ℕ → Option Reason
nth [] k = None
nth (r ∷ rs) zero = Some r
nth (r ∷ rs) (suc k) = nth rs k

-- the numbers ascend by one, from n
abbrev rises : ℕ → List Reason → Bool
rises n [] = true
rises n (r ∷ rs) = (number r == n) && rises (n + 1) rs

reasons_rise : rises 0 reasons ≡ true
reasons_rise = refl

each_stands : (r : Reason) → nth reasons (number r) ≡ Some r
each_stands OutOfMemory = refl
each_stands r = refl

by_test : (b : Bool) (x r : Reason) (later : Option Reason) → cond b (Some x) later ≡ Some r → ((b ≡ true) × (x ≡ r)) ⊎ ((b ≡ false) × (later ≡ Some r))
by_test true x r later e = inl (refl, cc)
by_test false x r later e = inr (refl, e)

by_none : (b : Bool) (x : Reason) (later : Option Reason) → cond b (Some x) later ≡ None → (b ≡ false) × (later ≡ None)
by_none true x later e = absurd (cc)
by_none false x later e = (refl, e)

head_number : (n : ℕ) (x : Reason) → (number x == n) ≡ true → number x ≡ n
head_number n x h = grind (arith, nat_tests)

module _ (holds : Reason → Bool) where
  found_holds : (rs : List Reason) (r : Reason) → find holds rs ≡ Some r → IsTrue (holds r)
  found_holds [] r e = absurd (cc)
  found_holds (x ∷ xs) r e = ⊎_elim (λ h. sym (ap holds h.1) ∙ h.0) (λ h. found_holds xs r h.1) (by_test (holds x) x r (find holds xs) e)

  none_holds : (rs : List Reason) (k : ℕ) (s : Reason) → find holds rs ≡ None → nth rs k ≡ Some s → holds s ≡ false
  none_holds [] k s e at = absurd (cc)
  none_holds (x ∷ xs) zero s e at = let same : x ≡ s = cc in sym (ap holds same) ∙ (by_none (holds x) x (find holds xs) e).0
  none_holds (x ∷ xs) (suc k) s e at = none_holds xs k s (by_none (holds x) x (find holds xs) e).1 at

  found_first : (n : ℕ) (rs : List Reason) (k : ℕ) (r s : Reason) → rises n rs ≡ true → find holds rs ≡ Some r → nth rs k ≡ Some s → IsTrue (holds s) → number r ≤ n + k
  found_first n [] k r s rising e at h = absurd (cc)
  found_first n (x ∷ xs) zero r s rising e at h =
      let same : x ≡ s = cc in
      let here = head_number n x (and_parts (number x == n) (rises (n + 1) xs) rising).0 in
      ⊎_elim
      (λ f. let is : number r ≡ n = sym (ap number f.1) ∙ here in omega arith)
      (λ f. let no : true ≡ false = sym h ∙ sym (ap holds same) ∙ f.0 in absurd (cc))
      (by_test (holds x) x r (find holds xs) e)
  found_first n (x ∷ xs) (suc k) r s rising e at h =
      let both = and_parts (number x == n) (rises (n + 1) xs) rising in
      let here = head_number n x both.0 in
      ⊎_elim
      (λ f. let is : number r ≡ n = sym (ap number f.1) ∙ here in omega arith)
      (λ f. let later : number r ≤ n + 1 + k = found_first (n + 1) xs k r s both.1 f.1 at h in omega arith)
      (by_test (holds x) x r (find holds xs) e)

  pub is_least : (r : Reason) → least holds ≡ Some r → IsLeast holds r
  unfolding least
  is_least r e = record {
    holding = found_holds reasons r e;
    before = λ s h. let within : number r ≤ 0 + number s = found_first 0 reasons (number s) r s reasons_rise e (each_stands s) h in omega arith;
  }

  one_number : (q r : Reason) → number q ≡ number r → q ≡ r
  one_number q r same = let is : Some q ≡ Some r = sym (each_stands q) ∙ ap (nth reasons) same ∙ each_stands r in cc

  by_found : (o : Option Reason) (r : Reason) → find holds reasons ≡ o → IsLeast holds r → o ≡ Some r
  unfolding least
  by_found None r is l = let no : true ≡ false = sym l.holding ∙ none_holds reasons (number r) r is (each_stands r) in absurd (cc)
  by_found (Some q) r is l =
      let first = is_least q is in
      let below : number q ≤ number r = first.before r l.holding in
      let above : number r ≤ number q = l.before q first.holding in
      ap Some (one_number q r (omega arith))

  pub least_is : (r : Reason) → (least holds ≡ Some r) ↔ IsLeast holds r
  unfolding least
  least_is r = (is_least r, (λ l. by_found (find holds reasons) r refl l))

  none_found : (o : Option Reason) → find holds reasons ≡ o → ((r : Reason) → holds r ≡ false) → o ≡ None
  none_found None is none = refl
  none_found (Some q) is none = let no : true ≡ false = sym (found_holds reasons q is) ∙ none q in absurd (cc)

  pub none_is : (least holds ≡ None) ↔ ((r : Reason) → holds r ≡ false)
  unfolding least
  none_is = ((λ e r. none_holds reasons (number r) r e (each_stands r)), (λ none. none_found (find holds reasons) refl none))

-- ---- the first reason

one_first : (b : Bool) (r : Reason) (later : List Reason) (o : Option Reason) → first later ≡ o → first (cond b (r ∷ later) later) ≡ cond b (Some r) o
one_first true r later o same = refl
one_first false r later o same = same

first_kept : (h : Reason → Bool) (rs : List Reason) → first (filter h rs) ≡ find h rs
first_kept h [] = refl
first_kept h (r ∷ rs) = one_first (h r) r _ _ (first_kept h rs)

shown : (b c : Bool) → b ≡ false → (not (b || false) && c) ≡ c
shown true c none = absurd (cc)
shown false c none = refl

-- the reasons after `Feature`
abbrev later : List Reason
later = Links ∷ Notes ∷ DimensionsMissing ∷ NameForm ∷ UnboundPrefix ∷ ReservedNamespace ∷ MissingConcept ∷ UnknownConcept ∷ UnknownDimension ∷ DimensionValue ∷ PeriodForm ∷ PeriodOrder ∷ UnitForm ∷ UnitOnOther ∷ LanguageForm ∷ LanguageOnNumeric ∷ ValueForm ∷ NumberForm ∷ NumberDigits ∷ DecimalsForm ∷ DecimalsRange ∷ DecimalsOnOther ∷ DisallowedDuplicates ∷ SheetKind ∷ []

pub first_told : (h : Reason → Bool) → first (told h) ≡ least h
unfolding told least
first_told h =
    first_kept (λ r. not (list_any h (hidden_by r)) && h r) reasons
    ∙ ap (λ x. cond (h OutOfMemory) (Some OutOfMemory) (cond (h NotJson) (Some NotJson) (cond (h MemberForm) (Some MemberForm) (cond (h UnknownMember) (Some UnknownMember) (cond (h DocumentType) (Some DocumentType) x)))))
    (behind_test (h Namespace) Namespace _ _
    (λ none. ap (λ b. cond (h BaseUrl) (Some BaseUrl) (cond (h TaxonomyUrl) (Some TaxonomyUrl) (cond b (Some Feature) (find h later)))) (shown (h Namespace) (h Feature) none)))

-- ---- all reasons

none_of : (h : Reason → Bool) (xs : List Reason) (s : Reason) → list_any h xs ≡ false → Contains xs s → h s ≡ false
none_of h [] s none at = let lt : at.0 < 0 = at.1 in absurd (omega arith)
none_of h (x ∷ xs) s none (zero, lt, is) = sym (ap h is) ∙ (or_parts (h x) (list_any h xs) none).0
none_of h (x ∷ xs) s none (suc k, lt, is) = none_of h xs s (or_parts (h x) (list_any h xs) none).1 (k, omega arith, is)

any_none : (h : Reason → Bool) (xs : List Reason) → ((s : Reason) → Contains xs s → h s ≡ false) → list_any h xs ≡ false
any_none h [] none = refl
any_none h (x ∷ xs) none = or_from (h x) (list_any h xs) (none x (0, omega arith, refl)) (any_none h xs (λ s at. none s (later_there x xs s at)))

front_kept : (b : Bool) (x r : Reason) (xs : List Reason) → b ≡ true → x ≡ r → Contains (cond b (x ∷ xs) xs) r
front_kept true x r xs h same = (0, omega arith, same)
front_kept false x r xs h same = absurd (cc)

later_kept : (b : Bool) (x r : Reason) (xs : List Reason) → Contains xs r → Contains (cond b (x ∷ xs) xs) r
later_kept true x r xs at = later_there x xs r at
later_kept false x r xs at = at

kept : (test : Reason → Bool) (rs : List Reason) (k : ℕ) (r : Reason) → nth rs k ≡ Some r → test r ≡ true → Contains (filter test rs) r
kept test [] k r at passes = absurd (cc)
kept test (x ∷ xs) zero r at passes = let same : x ≡ r = cc in front_kept (test x) x r (filter test xs) (ap test same ∙ passes) same
kept test (x ∷ xs) (suc k) r at passes = later_kept (test x) x r (filter test xs) (kept test xs k r at passes)

mapped : (p : ℕ → Bool) (b : Bool) (x : Reason) (xs ys : List Reason) → filter p (map number xs) ≡ map number ys → cond b (number x ∷ filter p (map number xs)) (filter p (map number xs)) ≡ map number (cond b (x ∷ ys) ys)
mapped p true x xs ys same = ap (λ l. number x ∷ l) same
mapped p false x xs ys same = same

filtered : (p : ℕ → Bool) (rs : List Reason) → filter p (map number rs) ≡ map number (filter (λ r. p (number r)) rs)
filtered p [] = refl
filtered p (x ∷ xs) = mapped p (p (number x)) x xs _ (filtered p xs)

at_index : (n : ℕ) (rs : List Reason) (k : ℕ) → rises n rs ≡ true → k < length (map number rs) → slice_index (map number rs) k ≡ n + k
at_index n [] k rising lt = absurd (omega arith)
at_index n (x ∷ xs) zero rising lt = let here = head_number n x (and_parts (number x == n) (rises (n + 1) xs) rising).0 in omega arith
at_index n (x ∷ xs) (suc k) rising lt = let there = at_index (n + 1) xs k (and_parts (number x == n) (rises (n + 1) xs) rising).1 (omega arith) in omega arith

numbers_rise : IsStrictlyIncreasing (map number reasons)
numbers_rise k lt =
    let here : slice_index (map number reasons) k ≡ 0 + k = at_index 0 reasons k reasons_rise (omega arith) in
    let next : slice_index (map number reasons) (k + 1) ≡ 0 + (k + 1) = at_index 0 reasons (k + 1) reasons_rise lt in
    omega arith

module _ (h : Reason → Bool) where
  abbrev shown_test : Reason → Bool
  shown_test r = not (list_any h (hidden_by r)) && h r

  shown_parts : (hidden there : Bool) → (not hidden && there) ≡ true → (hidden ≡ false) × (there ≡ true)
  shown_parts false true e = (refl, refl)
  shown_parts hidden there e = absurd (cc)

  shown_both : (hidden there : Bool) → hidden ≡ false → there ≡ true → (not hidden && there) ≡ true
  shown_both hidden there e f = λ i. not (e i) && f i

  told_hold : (r : Reason) → Contains (told h) r ↔ IsShown h r
  unfolding told
  told_hold r = (
    (λ at.
        let both = shown_parts (list_any h (hidden_by r)) (h r) (All-contains (λ x. shown_test x ≡ true) (told h) r (filter_passes shown_test reasons) at) in
        record { holding = both.1; alone = λ s one. none_of h (hidden_by r) s both.0 one }),
    (λ is. kept shown_test reasons (number r) r (each_stands r) (shown_both (list_any h (hidden_by r)) (h r) (any_none h (hidden_by r) is.alone) is.holding)),
  )

  abbrev at_number : ℕ → Bool
  at_number n = option_map_or shown_test (nth reasons n) false

  same_test : (rs : List Reason) → filter (λ r. at_number (number r)) rs ≡ filter shown_test rs
  same_test [] = refl
  same_test (x ∷ xs) = λ i. cond (option_map_or shown_test (each_stands x i) false) (x ∷ same_test xs i) (same_test xs i)

  told_rise : IsStrictlyIncreasing (map number (told h))
  unfolding told
  told_rise = subst IsStrictlyIncreasing (filtered at_number reasons ∙ ap (map number) (same_test reasons)) (IsStrictlyIncreasing-filter at_number (map number reasons) numbers_rise)

pub least_is_answered : LeastIsAnswered
least_is_answered h = record { some = least_is h; none = none_is h; told_hold = told_hold h; told_rise = told_rise h; told_first = first_told h }
