-- The level of distinct facts, grouped by dimension sets.
use Rattle.fact_base.proofs.Shared.{◌≡◌, ℕ, arith, max, slice_get, Bool, true, false, cond, not, ◌&&◌, ◌||◌, List, [], ◌∷◌, ◌++◌, Some, refl, sym, ap, ◌∙◌, ◌≢◌, AllByRecursion, list_all, tied_itself, is_eq, ord_max, ordering_then, Ordering, Less, Equal, Greater, false≢true, and_from, and_parts, list_all-append, same_Some, IsRising, IsSet, entry_key, level_cmp, level_entry, levels, value_cmp, Level, Value, DimensionSet, dimensions_cmp, fact_cmp, Fact, dimensions_cmp_total, allows, allows_each, allows_values, level_of, Entry, facts_with, facts_of_entries, facts_of_entry, level_at, each_meet, verdict_of, IsConsistent, IsInconsistent}
use Rattle.std.specs.List.Sorted.{IsStrictlySortedBy}
use Rattle.std.proofs.lemmas.List.Sums.{list_all-from_AllPass}
use Rattle.oim_value.specs.declared.level.Level.TheVariants.{Unique, Complete, Consistent, All as AllLevel}
use Rattle.oim_report.proofs.Pairs.{complete_are_consistent, level_of_is, strictest, unique_are_complete}
use Rattle.fact_base.specs.declared.verdict.Verdict.{Verdict}
use Rattle.fact_base.proofs.EntryFacts.{less_than_later}
use Rattle.fact_base.proofs.Members.{each_by_there, each_in_turn}
use Rattle.fact_base.specs.Level.{SetsAreNeverComplete}

-- ---- one dimension set

abbrev pub level_of_values : List Value → Level
level_of_values (v ∷ w ∷ vs) = cond (each_meet (v ∷ w ∷ vs)) Consistent AllLevel
level_of_values o = Unique

pub level_is : (vs : List Value) (verdict : Verdict) → verdict_of vs ≡ Some verdict → level_at verdict ≡ level_of_values vs
level_is [] verdict h = cc
level_is (v ∷ []) verdict h = ap level_at (sym (same_Some _ _ h))
level_is (v ∷ w ∷ vs) verdict h = ap level_at (sym (same_Some _ _ h)) ∙ by_test (each_meet (v ∷ w ∷ vs))
  where
    by_test : (b : Bool) → level_at (cond b IsConsistent IsInconsistent) ≡ cond b Consistent AllLevel
    by_test true = refl
    by_test false = refl

abbrev each_value : Level → List Value → Bool
each_value l [] = true
each_value l (v ∷ vs) = list_all (allows_values l v) vs && each_value l vs

same_allowed : (l : Level) (s : DimensionSet) (v w : Value) → allows l (record { dimensions = s; value = v }) (record { dimensions = s; value = w }) ≡ allows_values l v w
same_allowed l s v w = ap (λ (o : Ordering). not (is_eq o) || allows_values l v w) (tied_itself dimensions_cmp_total s)

beside_values : (l : Level) (s : DimensionSet) (v : Value) (ws : List Value) → list_all (allows l (record { dimensions = s; value = v })) (facts_with s ws) ≡ list_all (allows_values l v) ws
beside_values l s v [] = refl
beside_values l s v (w ∷ ws) = λ i. same_allowed l s v w i && beside_values l s v ws i

values_decide : (l : Level) (s : DimensionSet) (vs : List Value) → allows_each l (facts_with s vs) ≡ each_value l vs
values_decide l s [] = refl
values_decide l s (v ∷ vs) = λ i. beside_values l s v vs i && values_decide l s vs i

meet_is : (vs : List Value) → each_value Consistent vs ≡ each_meet vs
meet_is [] = refl
meet_is (v ∷ vs) = ap (λ b. list_all (allows_values Consistent v) vs && b) (meet_is vs)

level_at_set : (s : DimensionSet) (vs : List Value) → IsSet value_cmp vs → level_of (facts_with s vs) ≡ level_of_values vs
unfolding IsStrictlySortedBy
level_at_set s [] rises = level_of_is []
level_at_set s (v ∷ []) rises = level_of_is (facts_with s (v ∷ []))
level_at_set s (v ∷ w ∷ vs) rises =
    level_of_is (facts_with s (v ∷ w ∷ vs))
    ∙ (λ i. strictest (values_decide Unique s (v ∷ w ∷ vs) i) (values_decide Complete s (v ∷ w ∷ vs) i) (values_decide Consistent s (v ∷ w ∷ vs) i))
    ∙ (λ i. strictest false (other i) (meet_is (v ∷ w ∷ vs) i))
  where
    other : each_value Complete (v ∷ w ∷ vs) ≡ false
    other = ap (λ (o : Ordering). (is_eq o && list_all (allows_values Complete v) vs) && each_value Complete (w ∷ vs)) rises.0.0

-- ---- several dimension sets

four : (P : Bool → Bool → Bool → Type 0) → P true true true → P false true true → P false false true → P false false false → (u c s : Bool) → (u ≡ true → c ≡ true) → (c ≡ true → s ≡ true) → P u c s
four P a b c d true true true p q = a
four P a b c d false true true p q = b
four P a b c d false false true p q = c
four P a b c d false false false p q = d
four P a b c d true false s p q = absurd (false≢true (p refl))
four P a b c d o true false p q = absurd (false≢true (q refl))

abbrev Together : Bool → Bool → Bool → Bool → Bool → Bool → Type 0
Together u c s v d t = strictest (u && v) (c && d) (s && t) ≡ ord_max level_cmp (strictest u c s) (strictest v d t)

together : (u c s v d t : Bool) → (u ≡ true → c ≡ true) → (c ≡ true → s ≡ true) → (v ≡ true → d ≡ true) → (d ≡ true → t ≡ true) → Together u c s v d t
together u c s v d t p q r o =
    four (λ u c s. Together u c s v d t)
    (four (Together true true true) refl refl refl refl v d t r o)
    (four (Together false true true) refl refl refl refl v d t r o)
    (four (Together false false true) refl refl refl refl v d t r o)
    (four (Together false false false) refl refl refl refl v d t r o)
    u c s p q

regrouped : (a b c d : Bool) → b ≡ true → ((a && b) && (c && d)) ≡ ((a && c) && d)
regrouped true true true d h = refl
regrouped a false c d h = absurd (false≢true h)
regrouped a true c d h = refl

append_allowed : (l : Level) (fs gs : List Fact) → AllByRecursion (λ f. list_all (allows l f) gs ≡ true) fs → allows_each l (fs ++ gs) ≡ (allows_each l fs && allows_each l gs)
append_allowed l [] gs apart = refl
append_allowed l (f ∷ fs) gs apart =
    (λ i. list_all-append (allows l f) fs gs i && append_allowed l fs gs apart.1 i)
    ∙ regrouped (list_all (allows l f) fs) (list_all (allows l f) gs) (allows_each l fs) (allows_each l gs) apart.0

apart_allowed : (l : Level) (f g : Fact) → dimensions_cmp f.dimensions g.dimensions ≡ Less → allows l f g ≡ true
apart_allowed l f g h = ap (λ (o : Ordering). not (is_eq o) || allows_values l f.value g.value) h

apart_from_later : (l : Level) (e : Entry) (es : List Entry) → AllByRecursion (λ d. dimensions_cmp e.0 d.0 ≡ Less) es → AllByRecursion (λ f. list_all (allows l f) (facts_of_entries es) ≡ true) (facts_of_entry e)
apart_from_later l e es below =
    each_in_turn (λ f. list_all (allows l f) (facts_of_entries es) ≡ true) (facts_of_entry e) (λ f at.
    list_all-from_AllPass (allows l f) (facts_of_entries es) (each_by_there (λ g. allows l f g ≡ true) (facts_of_entries es) (λ g later. apart_allowed l f g (less_than_later e es below f g at later))))

level_of_more : (e : Entry) (es : List Entry) → IsSet value_cmp e.1.0 → AllByRecursion (λ d. dimensions_cmp e.0 d.0 ≡ Less) es → level_of (facts_of_entries (e ∷ es)) ≡ ord_max level_cmp (level_of_values e.1.0) (level_of (facts_of_entries es))
level_of_more e es rises below =
    let fs : List Fact = facts_of_entry e in
    let gs : List Fact = facts_of_entries es in
    level_of_is (fs ++ gs)
    ∙ (λ i. strictest (append_allowed Unique fs gs (apart_from_later Unique e es below) i) (append_allowed Complete fs gs (apart_from_later Complete e es below) i) (append_allowed Consistent fs gs (apart_from_later Consistent e es below) i))
    ∙ together (allows_each Unique fs) (allows_each Complete fs) (allows_each Consistent fs) (allows_each Unique gs) (allows_each Complete gs) (allows_each Consistent gs) (unique_are_complete fs) (complete_are_consistent fs) (unique_are_complete gs) (complete_are_consistent gs)
    ∙ (λ i. ord_max level_cmp ((sym (level_of_is fs) ∙ level_at_set e.0 e.1.0 rises) i) (sym (level_of_is gs) i))

-- ---- the loop over entries

abbrev pub highest : Level → List Entry → Level
highest level [] = level
highest level (e ∷ es) = highest (ord_max level_cmp level (level_of_values e.1.0)) es

pub each : (P : Level → Type 0) → P Unique → P Complete → P Consistent → P AllLevel → (l : Level) → P l
each P a b c d Unique = a
each P a b c d Complete = b
each P a b c d Consistent = c
each P a b c d AllLevel = d

unique_is_least : (l : Level) → ord_max level_cmp l Unique ≡ l
unique_is_least = each (λ l. ord_max level_cmp l Unique ≡ l) refl refl refl refl

abbrev index : Level → ℕ
index l = (level_entry l).index

at_index : (l : Level) → slice_get levels (index l) ≡ Some l
at_index = each (λ l. slice_get levels (index l) ≡ Some l) refl refl refl refl

same_index : (l m : Level) → index l ≡ index m → l ≡ m
same_index l m is = same_Some l m (sym (at_index l) ∙ ap (slice_get levels) is ∙ at_index m)

abbrev IndexOfMax : Level → Level → Type 0
IndexOfMax l m = index (ord_max level_cmp l m) ≡ max (index l) (index m)

index_of_max : (l m : Level) → IndexOfMax l m
index_of_max = each (λ l. (m : Level) → IndexOfMax l m)
    (each (IndexOfMax Unique) refl refl refl refl)
    (each (IndexOfMax Complete) refl refl refl refl)
    (each (IndexOfMax Consistent) refl refl refl refl)
    (each (IndexOfMax AllLevel) refl refl refl refl)

max_regroups : (a b c : Level) → ord_max level_cmp (ord_max level_cmp a b) c ≡ ord_max level_cmp a (ord_max level_cmp b c)
max_regroups a b c = same_index _ _ (omega (arith, index_of_max a b, index_of_max b c, index_of_max (ord_max level_cmp a b) c, index_of_max a (ord_max level_cmp b c)))

pub highest_is : (level : Level) (es : List Entry) → IsRising dimensions_cmp entry_key es → AllByRecursion (λ e. IsSet value_cmp e.1.0) es → highest level es ≡ ord_max level_cmp level (level_of (facts_of_entries es))
unfolding IsStrictlySortedBy
highest_is level [] rise sets = sym (unique_is_least level) ∙ ap (ord_max level_cmp level) (sym (level_of_is []))
highest_is level (e ∷ es) rise sets =
    highest_is (ord_max level_cmp level (level_of_values e.1.0)) es rise.1 sets.1
    ∙ max_regroups level (level_of_values e.1.0) (level_of (facts_of_entries es))
    ∙ ap (ord_max level_cmp level) (sym (level_of_more e es sets.0 rise.0))

-- ---- the level of distinct facts is not `complete`

by_dimensions : (o v : Ordering) → ordering_then o v ≡ Less → (not (is_eq o) || is_eq v) ≡ true → (not (is_eq o) || false) ≡ true
by_dimensions Equal Less less allowed = allowed
by_dimensions Equal Equal less allowed = absurd (cc)
by_dimensions Equal Greater less allowed = allowed
by_dimensions o v less allowed = refl

apart : (f g : Fact) → fact_cmp f g ≡ Less → allows Complete f g ≡ true → allows Unique f g ≡ true
apart f g less allowed = by_dimensions (dimensions_cmp f.dimensions g.dimensions) (value_cmp f.value g.value) less allowed

beside_later : (f : Fact) (gs : List Fact) → AllByRecursion (λ g. fact_cmp f g ≡ Less) gs → list_all (allows Complete f) gs ≡ true → list_all (allows Unique f) gs ≡ true
beside_later f [] below allowed = refl
beside_later f (g ∷ gs) below allowed =
    let both = and_parts (allows Complete f g) (list_all (allows Complete f) gs) allowed in
    and_from (allows Unique f g) (list_all (allows Unique f) gs) (apart f g below.0 both.0) (beside_later f gs below.1 both.1)

each_once : (fs : List Fact) → IsSet fact_cmp fs → allows_each Complete fs ≡ true → allows_each Unique fs ≡ true
unfolding IsStrictlySortedBy
each_once [] rises allowed = refl
each_once (f ∷ fs) rises allowed =
    let both = and_parts (list_all (allows Complete f) fs) (allows_each Complete fs) allowed in
    and_from (list_all (allows Unique f) fs) (allows_each Unique fs) (beside_later f fs rises.0 both.0) (each_once fs rises.1 both.1)

not_complete : (u c s : Bool) → (c ≡ true → u ≡ true) → strictest u c s ≢ Complete
not_complete false true s unless is = absurd (false≢true (unless refl))
not_complete false false true unless is = absurd (cc)
not_complete u c s unless is = absurd (cc)

pub sets_are_never_complete : SetsAreNeverComplete
sets_are_never_complete facts rises is =
    not_complete (allows_each Unique facts) (allows_each Complete facts) (allows_each Consistent facts) (each_once facts rises) (sym (level_of_is facts) ∙ is)
