-- The level of sorted facts, computed in one loop.
use Rattle.oim_report.proofs.Shared.{◌≡◌, Bool, true, false, cond, not, ◌&&◌, ◌||◌, List, [], ◌∷◌, ◌++◌, append_assoc, refl, sym, ap, subst, ◌∙◌, Option, if◌then◌else◌, is_eq, is_gt, Ordering, Less, Equal, Greater, list_all, IsTotalOrder, alike_right, tied_itself, ord_max, ordering_then, and_parts, and_from, not-true, list_all-append, and-false, and-true, level_cmp, value_cmp, Interval, Level, Unique, Complete, Consistent, AllLevel, value_cmp_self, value_cmp_total, DimensionSet, dimensions_cmp, fact_cmp, Fact, both_common, both_meet, interval_at, level_beside, dimensions_cmp_total, fact_cmp_exact}
use Rattle.oim_report.specs.Duplicates.{allows, allows_each, allows_values, are_duplicates, level_of}
use Rattle.oim_report.proofs.Pairs.{allows_each-push, complete_are_consistent, level_of_is, strictest, unique_are_complete}
use Rattle.oim_report.proofs.ValuesMeet.{both_meet-both_common, lesser_meets, values_meet_self, never}

abbrev dims : Fact → Fact → Ordering
dims f g = dimensions_cmp f.dimensions g.dimensions

-- ---- orders

pub first_up : (a b : Ordering) → is_gt (ordering_then a b) ≡ false → is_gt a ≡ false
first_up Greater b h = h
first_up a b h = refl

second_up : (a b : Ordering) → a ≡ Equal → is_gt (ordering_then a b) ≡ false → is_gt b ≡ false
second_up Equal b e h = h
second_up a b e h = cc

pub less_from : (a : Ordering) → is_gt a ≡ false → is_eq a ≡ false → a ≡ Less
less_from Less up other = refl
less_from Equal up other = never (sym other)
less_from Greater up other = never (sym up)

pub up_cases : {P : Type 0} (a : Ordering) → is_gt a ≡ false → (a ≡ Less → P) → (a ≡ Equal → P) → P
up_cases Less up less equal = less refl
up_cases Equal up less equal = equal refl
up_cases Greater up less equal = never (sym up)

up_then_less : {K : Type 0} {R : K → K → Ordering} → IsTotalOrder R → (x y z : K) → is_gt (R x y) ≡ false → R y z ≡ Less → R x z ≡ Less
up_then_less {K} {R} o x y z up less = up_cases (R x y) up (λ e. o.trans x y z e less) (λ e. o.congr x y z e ∙ less)

-- ---- the loop, step by step

-- The level that the loop returns after the remaining facts of a sorted list. `last` is the last fact so far, `level` is the
-- level so far, and `shared` is the common part of the intervals of all facts so far that have the dimensions of `last`.
unfoldable pub walk : Fact → Option Interval → Level → List Fact → Level
walk last shared level [] = level
walk last shared level (f ∷ fs) =
    if are_duplicates last f then walk f (both_common shared (interval_at f.value)) (ord_max level_cmp level (level_beside last.value shared f.value)) fs
    else walk f (interval_at f.value) level fs

pub walk-nil : (last : Fact) (shared : Option Interval) (level : Level) → walk last shared level [] ≡ level
unfolding walk
walk-nil last shared level = refl

pub walk-duplicate : (last f : Fact) (shared : Option Interval) (level : Level) (fs : List Fact) → are_duplicates last f ≡ true → walk last shared level (f ∷ fs) ≡ walk f (both_common shared (interval_at f.value)) (ord_max level_cmp level (level_beside last.value shared f.value)) fs
unfolding walk
walk-duplicate last f shared level fs h =
    ap (λ b. cond b (walk f (both_common shared (interval_at f.value)) (ord_max level_cmp level (level_beside last.value shared f.value)) fs) (walk f (interval_at f.value) level fs)) h

pub walk-other : (last f : Fact) (shared : Option Interval) (level : Level) (fs : List Fact) → are_duplicates last f ≡ false → walk last shared level (f ∷ fs) ≡ walk f (interval_at f.value) level fs
unfolding walk
walk-other last f shared level fs h =
    ap (λ b. cond b (walk f (both_common shared (interval_at f.value)) (ord_max level_cmp level (level_beside last.value shared f.value)) fs) (walk f (interval_at f.value) level fs)) h

-- ---- properties of the facts so far

-- No fact so far has greater dimensions than `last`. If a later fact has the dimensions of `last` and a greater value,
-- `Consistent` allows it beside all facts so far exactly if its interval meets `shared`.
pub record Knows (before : List Fact) (last : Fact) (shared : Option Interval) : Type 0 where
  pub below : list_all (λ f. not (is_gt (dims f last))) (before ++ last ∷ []) ≡ true
  pub sharing : (h : Fact) → dims last h ≡ Equal → value_cmp last.value h.value ≡ Less → list_all (λ f. allows Consistent f h) (before ++ last ∷ []) ≡ both_meet shared (interval_at h.value)

each_from : {X : Type 0} (p q : X → Bool) → ((x : X) → p x ≡ true → q x ≡ true) → (xs : List X) → list_all p xs ≡ true → list_all q xs ≡ true
each_from p q f [] h = refl
each_from p q f (x ∷ xs) h = let both = and_parts (p x) (list_all p xs) h in and_from (q x) (list_all q xs) (f x both.0) (each_from p q f xs both.1)

each_push : {X : Type 0} (p : X → Bool) (xs : List X) (x : X) → list_all p (xs ++ x ∷ []) ≡ (list_all p xs && p x)
each_push p xs x = list_all-append p xs (x ∷ []) ∙ ap (λ b. list_all p xs && b) (and-true (p x))

apart_allowed : (l : Level) (f g : Fact) → dims f g ≡ Less → allows l f g ≡ true
apart_allowed l f g h = ap (λ (o : Ordering). not (is_eq o) || allows_values l f.value g.value) h

apart_each : (l : Level) (fs : List Fact) (last h : Fact) → list_all (λ f. not (is_gt (dims f last))) fs ≡ true → dims last h ≡ Less → list_all (λ f. allows l f h) fs ≡ true
apart_each l fs last h below less =
    each_from (λ f. not (is_gt (dims f last))) (λ f. allows l f h)
    (λ f up. apart_allowed l f h (up_then_less dimensions_cmp_total f.dimensions last.dimensions h.dimensions (not-true _ up) less)) fs below

same_allowed : (l : Level) (f g : Fact) → dims f g ≡ Equal → allows l f g ≡ allows_values l f.value g.value
same_allowed l f g h = ap (λ (o : Ordering). not (is_eq o) || allows_values l f.value g.value) h

lesser_allowed : (f g : Fact) → dims f g ≡ Equal → value_cmp f.value g.value ≡ Less → allows Consistent f g ≡ both_meet (interval_at f.value) (interval_at g.value)
lesser_allowed f g same less = same_allowed Consistent f g same ∙ lesser_meets f.value g.value less

still_below : (fs : List Fact) (last f : Fact) → list_all (λ g. not (is_gt (dims g last))) fs ≡ true → is_gt (dims last f) ≡ false → list_all (λ g. not (is_gt (dims g f))) (fs ++ f ∷ []) ≡ true
still_below fs last f below up =
    each_push (λ g. not (is_gt (dims g f))) fs f
    ∙ and_from _ _ (each_from (λ g. not (is_gt (dims g last))) (λ g. not (is_gt (dims g f))) (λ g le. ap not (chained g.dimensions last.dimensions f.dimensions (not-true _ le) up)) fs below) (ap (λ o. not (is_gt o)) itself)
  where
    chained : (x y z : DimensionSet) → is_gt (dimensions_cmp x y) ≡ false → is_gt (dimensions_cmp y z) ≡ false → is_gt (dimensions_cmp x z) ≡ false
    chained x y z a b = up_cases (dimensions_cmp y z) b (λ e. ap is_gt (up_then_less dimensions_cmp_total x y z a e)) (λ e. ap is_gt (sym (alike_right dimensions_cmp_total y z x e)) ∙ a)

    itself : dims f f ≡ Equal
    itself = tied_itself dimensions_cmp_total f.dimensions

pub knows_first : (f : Fact) → Knows [] f (interval_at f.value)
knows_first f = record {
  below = ap (λ o. not (is_gt o) && true) (tied_itself dimensions_cmp_total f.dimensions);
  sharing = λ h same less. and-true (allows Consistent f h) ∙ lesser_allowed f h same less;
}

pub knows_other : (before : List Fact) (last f : Fact) (shared : Option Interval) → Knows before last shared → dims last f ≡ Less → Knows (before ++ last ∷ []) f (interval_at f.value)
knows_other before last f shared known less = record {
  below = still_below (before ++ last ∷ []) last f known.below (ap is_gt less);
  sharing = λ h same lesser.
      let apart : dims last h ≡ Less = sym (alike_right dimensions_cmp_total f.dimensions h.dimensions last.dimensions same) ∙ less in
      each_push (λ g. allows Consistent g h) (before ++ last ∷ []) f
      ∙ ap (λ b. b && allows Consistent f h) (apart_each Consistent (before ++ last ∷ []) last h known.below apart)
      ∙ lesser_allowed f h same lesser;
}

pub knows_duplicate : (before : List Fact) (last f : Fact) (shared : Option Interval) → Knows before last shared → dims last f ≡ Equal → is_gt (value_cmp last.value f.value) ≡ false → Knows (before ++ last ∷ []) f (both_common shared (interval_at f.value))
knows_duplicate before last f shared known equal up = record {
  below = still_below (before ++ last ∷ []) last f known.below (ap is_gt equal);
  sharing = λ h same lesser.
      let also : dims last h ≡ Equal = dimensions_cmp_total.congr last.dimensions f.dimensions h.dimensions equal ∙ same in
      let above : value_cmp last.value h.value ≡ Less = up_then_less value_cmp_total last.value f.value h.value up lesser in
      each_push (λ g. allows Consistent g h) (before ++ last ∷ []) f
      ∙ ap (λ b. b && allows Consistent f h) (known.sharing h also above)
      ∙ ap (λ b. both_meet shared (interval_at h.value) && b) (lesser_allowed f h same lesser)
      ∙ sym (both_meet-both_common shared (interval_at f.value) (interval_at h.value));
}

-- ---- the level after one more fact

abbrev grown : List Fact → Fact → Level
grown fs f = strictest (allows_each Unique fs && list_all (λ g. allows Unique g f) fs) (allows_each Complete fs && list_all (λ g. allows Complete g f) fs) (allows_each Consistent fs && list_all (λ g. allows Consistent g f) fs)

level_grown : (fs : List Fact) (f : Fact) → level_of (fs ++ f ∷ []) ≡ grown fs f
level_grown fs f = level_of_is (fs ++ f ∷ []) ∙ (λ i. strictest (allows_each-push Unique fs f i) (allows_each-push Complete fs f i) (allows_each-push Consistent fs f i))

three : {a b c x y z : Bool} → a ≡ x → b ≡ y → c ≡ z → strictest a b c ≡ strictest x y z
three p q r = λ i. strictest (p i) (q i) (r i)

level_other : (before : List Fact) (last f : Fact) (shared : Option Interval) → Knows before last shared → dims last f ≡ Less → level_of ((before ++ last ∷ []) ++ f ∷ []) ≡ level_of (before ++ last ∷ [])
level_other before last f shared known less =
    let fs : List Fact = before ++ last ∷ [] in
    level_grown fs f ∙ three (free Unique) (free Complete) (free Consistent) ∙ sym (level_of_is fs)
  where
    free : (l : Level) → (allows_each l (before ++ last ∷ []) && list_all (λ g. allows l g f) (before ++ last ∷ [])) ≡ allows_each l (before ++ last ∷ [])
    free l = ap (λ b. allows_each l (before ++ last ∷ []) && b) (apart_each l (before ++ last ∷ []) last f known.below less) ∙ and-true (allows_each l (before ++ last ∷ []))

refused_at_end : (l : Level) (before : List Fact) (last f : Fact) → allows l last f ≡ false → (allows_each l (before ++ last ∷ []) && list_all (λ g. allows l g f) (before ++ last ∷ [])) ≡ false
refused_at_end l before last f h =
    ap (λ b. allows_each l (before ++ last ∷ []) && b) (each_push (λ g. allows l g f) before last ∙ ap (λ b. list_all (λ g. allows l g f) before && b) h ∙ and-false _)
    ∙ and-false _

again : (l : Level) (before : List Fact) (last : Fact) → allows l last last ≡ true → (allows_each l (before ++ last ∷ []) && list_all (λ g. allows l g last) (before ++ last ∷ [])) ≡ allows_each l (before ++ last ∷ [])
again l before last h = absorbed _ _ (λ each. each_push (λ g. allows l g last) before last ∙ and_from _ _ (and_parts (allows_each l before) _ (sym (allows_each-push l before last) ∙ each)).1 h)
  where
    absorbed : (a b : Bool) → (a ≡ true → b ≡ true) → (a && b) ≡ a
    absorbed true b f = f refl
    absorbed false b f = refl

repeated : (u c s : Bool) → (u ≡ true → c ≡ true) → strictest false c s ≡ ord_max level_cmp (strictest u c s) Complete
repeated true false s p = never (p refl)
repeated false false true p = refl
repeated u c s p = refl

differing : (u c s m : Bool) → (u ≡ true → c ≡ true) → (c ≡ true → s ≡ true) → strictest false false (s && m) ≡ ord_max level_cmp (strictest u c s) (cond m Consistent AllLevel)
differing true true true true p q = refl
differing true true true false p q = refl
differing false true true true p q = refl
differing false true true false p q = refl
differing false false true true p q = refl
differing false false true false p q = refl
differing false false false true p q = refl
differing false false false false p q = refl
differing true true false m p q = never (q refl)
differing false true false m p q = never (q refl)
differing true false s m p q = never (p refl)

level_repeated : (before : List Fact) (last : Fact) (shared : Option Interval) → level_of ((before ++ last ∷ []) ++ last ∷ []) ≡ ord_max level_cmp (level_of (before ++ last ∷ [])) (level_beside last.value shared last.value)
level_repeated before last shared =
    let fs : List Fact = before ++ last ∷ [] in
    let itself : dims last last ≡ Equal = tied_itself dimensions_cmp_total last.dimensions in
    let tied : value_cmp last.value last.value ≡ Equal = value_cmp_self last.value in
    let beside : level_beside last.value shared last.value ≡ Complete = ap (λ (o : Ordering). cond (is_eq o) Complete (cond (both_meet shared (interval_at last.value)) Consistent AllLevel)) tied in
    level_grown fs last
    ∙ three (refused_at_end Unique before last last (same_allowed Unique last last itself)) (again Complete before last (same_allowed Complete last last itself ∙ ap is_eq tied)) (again Consistent before last (same_allowed Consistent last last itself ∙ values_meet_self last.value))
    ∙ repeated (allows_each Unique fs) (allows_each Complete fs) (allows_each Consistent fs) (unique_are_complete fs)
    ∙ (λ i. ord_max level_cmp (sym (level_of_is fs) i) (sym beside i))

level_differing : (before : List Fact) (last f : Fact) (shared : Option Interval) → Knows before last shared → dims last f ≡ Equal → value_cmp last.value f.value ≡ Less → level_of ((before ++ last ∷ []) ++ f ∷ []) ≡ ord_max level_cmp (level_of (before ++ last ∷ [])) (level_beside last.value shared f.value)
level_differing before last f shared known same less =
    let fs : List Fact = before ++ last ∷ [] in
    let m : Bool = both_meet shared (interval_at f.value) in
    let beside : level_beside last.value shared f.value ≡ cond m Consistent AllLevel = ap (λ (o : Ordering). cond (is_eq o) Complete (cond m Consistent AllLevel)) less in
    level_grown fs f
    ∙ three (refused_at_end Unique before last f (same_allowed Unique last f same)) (refused_at_end Complete before last f (same_allowed Complete last f same ∙ ap is_eq less)) (ap (λ b. allows_each Consistent fs && b) (known.sharing f same less))
    ∙ differing (allows_each Unique fs) (allows_each Complete fs) (allows_each Consistent fs) m (unique_are_complete fs) (complete_are_consistent fs)
    ∙ (λ i. ord_max level_cmp (sym (level_of_is fs) i) (sym beside i))

level_duplicate : (before : List Fact) (last f : Fact) (shared : Option Interval) → Knows before last shared → dims last f ≡ Equal → is_gt (value_cmp last.value f.value) ≡ false → level_of ((before ++ last ∷ []) ++ f ∷ []) ≡ ord_max level_cmp (level_of (before ++ last ∷ [])) (level_beside last.value shared f.value)
level_duplicate before last f shared known same up =
    up_cases (value_cmp last.value f.value) up (level_differing before last f shared known same)
    (λ tied.
    let one : last ≡ f = fact_cmp_exact last f (ap (λ (o : Ordering). ordering_then o (value_cmp last.value f.value)) same ∙ tied) in
    subst (λ g. level_of ((before ++ last ∷ []) ++ g ∷ []) ≡ ord_max level_cmp (level_of (before ++ last ∷ [])) (level_beside last.value shared g.value)) one (level_repeated before last shared))

-- ---- the whole loop

-- no fact is below the fact before it
abbrev pub RisesFrom : Fact → List Fact → Type 0
RisesFrom last [] = Unit {0}
RisesFrom last (f ∷ fs) = (is_gt (fact_cmp last f) ≡ false) × RisesFrom f fs

pub walk_is : (fs before : List Fact) (last : Fact) (shared : Option Interval) → Knows before last shared → RisesFrom last fs → walk last shared (level_of (before ++ last ∷ [])) fs ≡ level_of (before ++ last ∷ fs)
walk_is [] before last shared known rises = walk-nil last shared (level_of (before ++ last ∷ []))
walk_is (f ∷ fs) before last shared known rises =
    up_cases (dims last f) (first_up (dims last f) (value_cmp last.value f.value) rises.0)
    (λ less.
    walk-other last f shared (level_of (before ++ last ∷ [])) fs (ap is_eq less)
    ∙ ap (λ l. walk f (interval_at f.value) l fs) (sym (level_other before last f shared known less))
    ∙ walk_is fs (before ++ last ∷ []) f (interval_at f.value) (knows_other before last f shared known less) rises.1
    ∙ ap level_of (append_assoc before (last ∷ []) (f ∷ fs)))
    (λ equal.
    let up = second_up (dims last f) (value_cmp last.value f.value) equal rises.0 in
    walk-duplicate last f shared (level_of (before ++ last ∷ [])) fs (ap is_eq equal)
    ∙ ap (λ l. walk f (both_common shared (interval_at f.value)) l fs) (sym (level_duplicate before last f shared known equal up))
    ∙ walk_is fs (before ++ last ∷ []) f (both_common shared (interval_at f.value)) (knows_duplicate before last f shared known equal up) rises.1
    ∙ ap level_of (append_assoc before (last ∷ []) (f ∷ fs)))

pub walk_from_first : (first : Fact) (fs : List Fact) → RisesFrom first fs → walk first (interval_at first.value) Unique fs ≡ level_of (first ∷ fs)
unfolding level_of
walk_from_first first fs rises = walk_is fs [] first (interval_at first.value) (knows_first first) rises
