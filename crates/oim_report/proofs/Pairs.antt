-- A level allows a list of facts exactly if it allows each pair of them.
use Rattle.oim_report.proofs.Shared.{◌≡◌, zero, suc, Bool, true, false, cond, not, ◌&&◌, ◌||◌, List, [], ◌∷◌, ◌++◌, get_or, refl, sym, ap, subst, ◌∙◌, arith, All, AllPairs, IsPermutation, IsTrue, Decides, is_eq, is_le, list_all, Equal-is, both_ways, tied_back, and_parts, and_from, not-false, Decides-by_and, list_all-append, AllPairs-cons, IsDistinct-from_apart, apart_from_distinct, IsDistinct-IsPermutation, IsPermutation-sym, or-true, level_cmp, value_cmp, Level, Unique, Complete, Consistent, AllLevel, Value, value_cmp_exact, value_cmp_total, Fact, dimensions_cmp_total}
use Rattle.oim_report.specs.Duplicates.{allows, allows_each, allows_values, are_duplicates, level_of, values_meet, LevelIgnoresOrder, LevelIsStrictest}
use Rattle.oim_report.proofs.ValuesMeet.{values_meet_self, values_meet_turns, never}

-- ---- a test of all pairs of facts

list_all-Decides : {X : Type 0} (p : X → Bool) (xs : List X) → Decides (list_all p xs) (All (λ x. p x ≡ true) xs)
list_all-Decides p xs = Decides-by_and p (λ x. p x ≡ true) (list_all p) (λ x. (λ h. h, λ h. h)) refl (λ _ _. refl) xs

abbrev pub EachAllowed : Level → List Fact → Type 0
EachAllowed l = AllPairs (λ f g. IsTrue (allows l f g))

first_pairs : {X : Type 0} (R : X → X → Type 0) (x : X) (xs : List X) → AllPairs R (x ∷ xs) → All (R x) xs
first_pairs R x xs pairs k d within = pairs zero (suc k) d (omega arith) (omega (arith, within))

later_pairs : {X : Type 0} (R : X → X → Type 0) (x : X) (xs : List X) → AllPairs R (x ∷ xs) → AllPairs R xs
later_pairs R x xs pairs i j d under within = pairs (suc i) (suc j) d (omega (arith, under)) (omega (arith, within))

pub each_allowed : (l : Level) (fs : List Fact) → allows_each l fs ≡ true → EachAllowed l fs
each_allowed l [] h = λ i j d under within. absurd (omega (arith, within))
each_allowed l (f ∷ fs) h =
    let both = and_parts (list_all (allows l f) fs) (allows_each l fs) h in
    AllPairs-cons (λ f g. IsTrue (allows l f g)) f fs ((list_all-Decides (allows l f) fs).0 both.0) (each_allowed l fs both.1)

pub allowed_each : (l : Level) (fs : List Fact) → EachAllowed l fs → allows_each l fs ≡ true
allowed_each l [] pairs = refl
allowed_each l (f ∷ fs) pairs =
    and_from (list_all (allows l f) fs) (allows_each l fs)
    ((list_all-Decides (allows l f) fs).1 (first_pairs (λ f g. IsTrue (allows l f g)) f fs pairs))
    (allowed_each l fs (later_pairs (λ f g. IsTrue (allows l f g)) f fs pairs))

-- ---- the order does not matter

turned_dimensions : (f g : Fact) → are_duplicates f g ≡ true → are_duplicates g f ≡ true
turned_dimensions f g h = ap is_eq (tied_back dimensions_cmp_total f.dimensions g.dimensions ((Equal-is _).0 h))

turned_values : (v w : Value) → is_eq (value_cmp v w) ≡ true → is_eq (value_cmp w v) ≡ true
turned_values v w h = ap is_eq (tied_back value_cmp_total v w ((Equal-is _).0 h))

allows_values_turns : (l : Level) (v w : Value) → allows_values l v w ≡ allows_values l w v
allows_values_turns Complete v w = both_ways _ _ (turned_values v w) (turned_values w v)
allows_values_turns Consistent v w = values_meet_turns v w
allows_values_turns l v w = refl

allows_turns : (l : Level) (f g : Fact) → allows l f g ≡ allows l g f
allows_turns l f g =
    let same : are_duplicates f g ≡ are_duplicates g f = both_ways _ _ (turned_dimensions f g) (turned_dimensions g f) in
    ap (λ b. not b || allows_values l f.value g.value) same ∙ ap (λ b. not (are_duplicates g f) || b) (allows_values_turns l f.value g.value)

refused : Level → Fact → Fact → Bool
refused l f g = not (allows l f g)

refused_turns : (l : Level) (f g : Fact) → refused l f g ≡ refused l g f
unfolding refused
refused_turns l f g = ap not (allows_turns l f g)

permuted : (l : Level) (fs gs : List Fact) → IsPermutation fs gs → allows_each l fs ≡ true → allows_each l gs ≡ true
unfolding refused
permuted l fs gs p h =
    let pairs = each_allowed l fs h in
    let apart = IsDistinct-from_apart (refused l) fs (λ i j d under within. ap not (pairs i j d under within)) in
    let moved = IsDistinct-IsPermutation (refused l) (refused_turns l) fs gs p apart in
    allowed_each l gs (λ i j d under within. not-false (allows l (get_or gs i d) (get_or gs j d)) (apart_from_distinct (refused l) gs i j d moved under within))

pub allows_each-IsPermutation : (l : Level) (fs gs : List Fact) → IsPermutation fs gs → allows_each l fs ≡ allows_each l gs
allows_each-IsPermutation l fs gs p = both_ways _ _ (permuted l fs gs p) (permuted l gs fs (IsPermutation-sym fs gs p))

-- ---- the strictest level, by the results of three tests

abbrev pub strictest : Bool → Bool → Bool → Level
strictest u c s = cond u Unique (cond c Complete (cond s Consistent AllLevel))

pub level_of_is : (fs : List Fact) → level_of fs ≡ strictest (allows_each Unique fs) (allows_each Complete fs) (allows_each Consistent fs)
unfolding level_of
level_of_is fs = refl

pub level_ignores_order : LevelIgnoresOrder
unfolding level_of
level_ignores_order fs gs p = λ i. strictest (allows_each-IsPermutation Unique fs gs p i) (allows_each-IsPermutation Complete fs gs p i) (allows_each-IsPermutation Consistent fs gs p i)

-- ---- a level allows all that a stricter level allows

either : (a b c : Bool) → (b ≡ true → c ≡ true) → (a || b) ≡ true → (a || c) ≡ true
either true b c f h = refl
either false b c f h = f h

equal_meet : (v w : Value) → is_eq (value_cmp v w) ≡ true → values_meet v w ≡ true
equal_meet v w h = subst (λ x. values_meet v x ≡ true) (value_cmp_exact v w ((Equal-is _).0 h)) (values_meet_self v)

weaker_pairs : (l m : Level) → ((v w : Value) → allows_values l v w ≡ true → allows_values m v w ≡ true) → (fs : List Fact) → allows_each l fs ≡ true → allows_each m fs ≡ true
weaker_pairs l m weaker fs h =
    let pairs = each_allowed l fs h in
    allowed_each m fs (λ i j d under within. let f : Fact = get_or fs i d in let g : Fact = get_or fs j d in either (not (are_duplicates f g)) (allows_values l f.value g.value) (allows_values m f.value g.value) (weaker f.value g.value) (pairs i j d under within))

pub unique_are_complete : (fs : List Fact) → allows_each Unique fs ≡ true → allows_each Complete fs ≡ true
unique_are_complete = weaker_pairs Unique Complete (λ v w h. never h)

pub complete_are_consistent : (fs : List Fact) → allows_each Complete fs ≡ true → allows_each Consistent fs ≡ true
complete_are_consistent = weaker_pairs Complete Consistent equal_meet

pub all_are_allowed : (fs : List Fact) → allows_each AllLevel fs ≡ true
all_are_allowed fs = allowed_each AllLevel fs (λ i j d under within. let f : Fact = get_or fs i d in let g : Fact = get_or fs j d in or-true (not (are_duplicates f g)))

-- whether a level allows the facts, by the results of the three tests
abbrev pub test_at : Level → Bool → Bool → Bool → Bool
test_at Unique u c s = u
test_at Complete u c s = c
test_at Consistent u c s = s
test_at AllLevel u c s = true

each_strictest : (l : Level) → (is_le (level_cmp Unique l) ≡ test_at l true true true) × (is_le (level_cmp Complete l) ≡ test_at l false true true) × (is_le (level_cmp Consistent l) ≡ test_at l false false true) × (is_le (level_cmp AllLevel l) ≡ test_at l false false false)
each_strictest Unique = (refl, refl, refl, refl)
each_strictest x = (refl, refl, refl, refl)

strictest_passes : (l : Level) (u c s : Bool) → (u ≡ true → c ≡ true) → (c ≡ true → s ≡ true) → is_le (level_cmp (strictest u c s) l) ≡ test_at l u c s
strictest_passes l true true true p q = (each_strictest l).0
strictest_passes l true false s p q = never (p refl)
strictest_passes l false true true p q = (each_strictest l).1
strictest_passes l false false true p q = (each_strictest l).2
strictest_passes l false false false p q = (each_strictest l).3
strictest_passes l u true false p q = never (q refl)

test_at_is : (l : Level) (fs : List Fact) → test_at l (allows_each Unique fs) (allows_each Complete fs) (allows_each Consistent fs) ≡ allows_each l fs
test_at_is AllLevel fs = sym (all_are_allowed fs)
test_at_is l fs = refl

pub passes_is : (l : Level) (fs : List Fact) → is_le (level_cmp (level_of fs) l) ≡ allows_each l fs
unfolding level_of
passes_is l fs = strictest_passes l (allows_each Unique fs) (allows_each Complete fs) (allows_each Consistent fs) (unique_are_complete fs) (complete_are_consistent fs) ∙ test_at_is l fs

pub level_is_strictest : LevelIsStrictest
level_is_strictest l fs = (
  λ pairs. passes_is l fs ∙ allowed_each l fs pairs,
  λ h. each_allowed l fs (sym (passes_is l fs) ∙ h),
)

-- ---- one more fact

regrouped : (a b c d : Bool) → ((a && (b && true)) && (c && d)) ≡ ((a && c) && (b && d))
regrouped true false true d = refl
regrouped a b c d = refl

pub allows_each-push : (l : Level) (fs : List Fact) (g : Fact) → allows_each l (fs ++ g ∷ []) ≡ (allows_each l fs && list_all (λ f. allows l f g) fs)
allows_each-push l [] g = refl
allows_each-push l (f ∷ fs) g =
    ap (λ b. b && allows_each l (fs ++ g ∷ [])) (list_all-append (allows l f) fs (g ∷ []))
    ∙ ap (λ b. (list_all (allows l f) fs && (allows l f g && true)) && b) (allows_each-push l fs g)
    ∙ regrouped (list_all (allows l f) fs) (allows l f g) (allows_each l fs) (list_all (λ h. allows l h g) fs)
