-- The loop over sorted facts: the level so far is the level of the facts so far.
use Rattle.oim_report.proofs.Shared.{◌≡◌, ◌==◌, ℕ, suc, ◌<◌, ◌≤◌, ◌+◌, Bool, true, false, not, ◌&&◌, List, [], ◌∷◌, ◌++◌, append_assoc, append-nil, length, take, drop, get_or, refl, sym, ap, subst, ◌∙◌, All, Option, Some, slice_get, ◌||◌, arith, is_le, is_lt, ne_eqb, get_or-take, length-take-le, take-append-drop, IsSorted, list_all, list_any, IsDistinct, range_with_len, false≢true, nat_eq_equiv, append_cancel_right, drop_all, get_or_default, All-head, All-tail, All-take, filter_map-append, list_any-append, get_or-range_with_len, length-range_with_len, IsDistinct-from_apart, IsDistinct-IsPermutation, apart_from_distinct, slice_get-get_or, option_map_or, level_cmp, Interval, Level, Unique, Complete, Consistent, AllLevel, Fact, are_apart, interval_at, allows, allows_each, are_duplicates, level_of, IsOrderOf, index_cmp}
use Rattle.std.proofs.Math.Dec.{eqb}
use Rattle.oim_report.proofs.Pairs.{allows_each-push, passes_is}
use Rattle.oim_report.proofs.Indices.{facts_at, facts_at-cons, facts_at-drop, level_at_order, indices_within, rises_from_first}
use Rattle.oim_report.proofs.Runs.{RisesFrom, walk, walk-nil, walk_from_first}

-- The loop has read `first` and `before`. The indices of the unread facts are `rest` without its first i items. Whatever facts
-- follow, the loop returns the same level from this state as from the start.
pub record Passed (facts : List Fact) (order rest : List ℕ) (i : ℕ) (last : Fact) (shared : Option Interval) (level : Level) : Type 0 where
  pub first : Fact
  pub before : List Fact
  pub are : facts_at facts order ≡ first ∷ (before ++ facts_at facts (drop i rest))
  pub rises : RisesFrom first (before ++ facts_at facts (drop i rest))
  pub so_far : (fs : List Fact) → walk last shared level fs ≡ walk first (interval_at first.value) Unique (before ++ fs)

-- ---- the loop

pub passed_none : (facts : List Fact) (order rest : List ℕ) (index : ℕ) (first : Fact) → IsOrderOf facts order → order ≡ index ∷ rest → first ≡ get_or facts index first → Passed facts order rest 0 first (interval_at first.value) Unique
passed_none facts order rest index first sorted split is =
    let within : All (λ p. p < length facts) (index ∷ rest) = subst (All (λ p. p < length facts)) split (indices_within facts order sorted) in
    let up : IsSorted (index_cmp facts) (index ∷ rest) = subst (IsSorted (index_cmp facts)) split sorted.rising in
    record {
      first = first;
      before = [];
      are = ap (facts_at facts) split ∙ facts_at-cons facts index rest first (All-head (λ p. p < length facts) index rest within) ∙ ap (λ f. f ∷ facts_at facts rest) (sym is);
      rises = subst (λ f. RisesFrom f (facts_at facts rest)) (sym is) (rises_from_first facts index rest first within up);
      so_far = λ fs. refl;
    }

pub passed_one : (facts : List Fact) (order rest : List ℕ) (i : ℕ) (last f : Fact) (shared later : Option Interval) (level found : Level) → i < length rest → get_or rest i 0 < length facts → f ≡ get_or facts (get_or rest i 0) f
    → ((fs : List Fact) → walk last shared level (f ∷ fs) ≡ walk f later found fs) → Passed facts order rest i last shared level → Passed facts order rest (i + 1) f later found
passed_one facts order rest i last f shared later level found here within is step passed =
    let after : List Fact = facts_at facts (drop (i + 1) rest) in
    let one : passed.before ++ facts_at facts (drop i rest) ≡ (passed.before ++ f ∷ []) ++ after = ap (λ fs. passed.before ++ fs) (facts_at-drop facts rest i f here within is) ∙ sym (append_assoc passed.before (f ∷ []) after) in
    record {
      first = passed.first;
      before = passed.before ++ f ∷ [];
      are = passed.are ∙ ap (λ fs. passed.first ∷ fs) one;
      rises = subst (RisesFrom passed.first) one passed.rises;
      so_far = λ fs. sym (step fs) ∙ passed.so_far (f ∷ fs) ∙ ap (walk passed.first (interval_at passed.first.value) Unique) (sym (append_assoc passed.before (f ∷ []) fs));
    }

-- ---- the level so far

rises_before : (last : Fact) (fs gs : List Fact) → RisesFrom last (fs ++ gs) → RisesFrom last fs
rises_before last [] gs rises = tt
rises_before last (f ∷ fs) gs rises = (rises.0, rises_before f fs gs rises.1)

pub level_so_far : (facts : List Fact) (order rest : List ℕ) (i : ℕ) (last : Fact) (shared : Option Interval) (level : Level) (passed : Passed facts order rest i last shared level) → level ≡ level_of (passed.first ∷ passed.before)
level_so_far facts order rest i last shared level passed =
    sym (walk-nil last shared level)
    ∙ passed.so_far []
    ∙ ap (walk passed.first (interval_at passed.first.value) Unique) (append-nil passed.before)
    ∙ walk_from_first passed.first passed.before (rises_before passed.first passed.before (facts_at facts (drop i rest)) passed.rises)

-- at the end of the loop, the level is the level of all facts
pub passed_all : (facts : List Fact) (order rest : List ℕ) (i : ℕ) (last : Fact) (shared : Option Interval) (level : Level) → IsOrderOf facts order → length rest ≤ i → Passed facts order rest i last shared level → level ≡ level_of facts
passed_all facts order rest i last shared level sorted past passed =
    level_so_far facts order rest i last shared level passed
    ∙ ap (λ fs. level_of (passed.first ∷ fs)) (sym (ap (λ ps. passed.before ++ facts_at facts ps) (drop_all i rest past) ∙ append-nil passed.before))
    ∙ ap level_of (sym passed.are)
    ∙ sym (level_at_order facts passed.first order sorted)

-- ---- a fact at which the level exceeds the limit

pub within_limit : (l m : Level) → is_le (level_cmp m l) ≡ not (is_lt (level_cmp l m))
within_limit = elim [
  | Unique ↦ elim [ Unique ↦ refl | Complete ↦ refl | Consistent ↦ refl | AllLevel ↦ refl ]
  | Complete ↦ elim [ Unique ↦ refl | Complete ↦ refl | Consistent ↦ refl | AllLevel ↦ refl ]
  | Consistent ↦ elim [ Unique ↦ refl | Complete ↦ refl | Consistent ↦ refl | AllLevel ↦ refl ]
  | AllLevel ↦ elim [ Unique ↦ refl | Complete ↦ refl | Consistent ↦ refl | AllLevel ↦ refl ]
]

pub unique_is_within : (l : Level) → is_lt (level_cmp l Unique) ≡ false
unique_is_within = elim [ Unique ↦ refl | Complete ↦ refl | Consistent ↦ refl | AllLevel ↦ refl ]

allowed_within : (limit level : Level) (fs : List Fact) → level ≡ level_of fs → allows_each limit fs ≡ not (is_lt (level_cmp limit level))
allowed_within limit level fs is = sym (passes_is limit fs) ∙ within_limit limit (level_of fs) ∙ ap (λ l. not (is_lt (level_cmp limit l))) (sym is)

pub second_false : (a b : Bool) → a ≡ true → (a && b) ≡ false → b ≡ false
second_false true b h both = both
second_false false b h both = absurd (false≢true h)

-- if a level forbids f beside one of the facts at some other indices, `are_apart` holds for one of these indices and f's index
pub one_apart : (l : Level) (facts : List Fact) (index : ℕ) (f : Fact) → slice_get facts index ≡ Some f → (indices : List ℕ) → All (λ p. p < length facts) indices → All (λ p. (p == index) ≡ false) indices → list_all (λ g. allows l g f) (facts_at facts indices) ≡ false
    → list_any (λ one. are_apart l facts one index) indices ≡ true
one_apart l facts index f here [] within others h = absurd (false≢true (sym h))
one_apart l facts index f here (p ∷ ps) within others h =
    let lp : p < length facts = All-head (λ p. p < length facts) p ps within in
    let g : Fact = get_or facts p f in
    let apart : are_apart l facts p index ≡ not (allows l g f) =
    apart_is g (p == index) (slice_get facts p) (slice_get facts index) (All-head (λ p. (p == index) ≡ false) p ps others) (slice_get-get_or facts p f lp) here in
    either (allows l g f) (list_all (λ g. allows l g f) (facts_at facts ps)) (are_apart l facts p index) (list_any (λ one. are_apart l facts one index) ps)
    apart (one_apart l facts index f here ps (All-tail (λ p. p < length facts) p ps within) (All-tail (λ p. (p == index) ≡ false) p ps others)) (ap (list_all (λ g. allows l g f)) (sym (facts_at-cons facts p ps f lp)) ∙ h)
  where
    apart_is : (g : Fact) (same : Bool) (a b : Option Fact) → same ≡ false → a ≡ Some g → b ≡ Some f → (not same && option_map_or (λ x. option_map_or (λ y. not (allows l x y)) b false) a false) ≡ not (allows l g f)
    apart_is g same a b other one two = (λ k. not (other k) && option_map_or (λ x. option_map_or (λ y. not (allows l x y)) (two k) false) (one k) false)

    either : (a b x y : Bool) → x ≡ not a → (b ≡ false → y ≡ true) → (a && b) ≡ false → (x || y) ≡ true
    either true b x y is later h = ap (λ z. z || y) is ∙ later h
    either false b x y is later h = ap (λ z. z || y) is

pub range_once : (n : ℕ) → IsDistinct eqb (range_with_len 0 n)
range_once n = IsDistinct-from_apart eqb (range_with_len 0 n) (λ i j d before within.
    let there : j < n = omega (arith, within, length-range_with_len 0 n) in
    let first = get_or-range_with_len 0 n i d (omega (arith, before, there)) in
    let second = get_or-range_with_len 0 n j d there in
    ne_eqb (get_or (range_with_len 0 n) i d) (get_or (range_with_len 0 n) j d) (λ e. omega (arith, e, before, first, second)))

-- the index after the first i indices is none of them
others_before : (facts : List Fact) (order : List ℕ) (i : ℕ) → IsOrderOf facts order → i < length order → All (λ p. (p == get_or order i 0) ≡ false) (take i order)
others_before facts order i sorted here k d under =
    let once : IsDistinct eqb order = IsDistinct-IsPermutation eqb nat_eq_equiv.symm (range_with_len 0 (length facts)) order sorted.each_once (range_once (length facts)) in
    let long = length-take-le i order (omega (arith, here)) in
    let low : k < i = omega (arith, under, long) in
    let first : get_or (take i order) k d ≡ get_or order k 0 = get_or-take i order k d low ∙ get_or_default order k d 0 (omega (arith, low, here)) in
    ap (λ p. p == get_or order i 0) first ∙ apart_from_distinct eqb order k i 0 once low here

-- if the level exceeds the limit after the fact f, the limit forbids f beside an earlier fact
pub passed_above : (facts : List Fact) (order rest : List ℕ) (head i : ℕ) (limit : Level) (last f : Fact) (shared later : Option Interval) (level found : Level) → IsOrderOf facts order → order ≡ head ∷ rest → i < length rest → get_or rest i 0 < length facts → f ≡ get_or facts (get_or rest i 0) f
    → is_lt (level_cmp limit level) ≡ false → is_lt (level_cmp limit found) ≡ true → (passed : Passed facts order rest i last shared level) → ((fs : List Fact) → walk last shared level (f ∷ fs) ≡ walk f later found fs)
    → list_any (λ one. are_apart limit facts one (get_or rest i 0)) order ≡ true
unfolding passed_one
passed_above facts order rest head i limit last f shared later level found sorted split here within is low high passed step =
    let earlier : List Fact = passed.first ∷ passed.before in
    let index : ℕ = get_or rest i 0 in
    let indices : List ℕ = take (suc i) order in
    let next = passed_one facts order rest i last f shared later level found here within is step passed in
    let allowed : allows_each limit earlier ≡ true = allowed_within limit level earlier (level_so_far facts order rest i last shared level passed) ∙ ap not low in
    let refused : allows_each limit (earlier ++ f ∷ []) ≡ false = allowed_within limit found (earlier ++ f ∷ []) (level_so_far facts order rest (i + 1) f later found next) ∙ ap not high in
    let apart : list_all (λ g. allows limit g f) earlier ≡ false = second_false _ _ allowed (sym (allows_each-push limit earlier f) ∙ refused) in
    let parts : indices ++ drop i rest ≡ order = ap (λ ps. indices ++ ps) (sym (ap (drop (suc i)) split)) ∙ take-append-drop (suc i) order in
    let are : facts_at facts indices ≡ earlier = append_cancel_right (facts_at facts indices) earlier (facts_at facts (drop i rest)) (sym (filter_map-append (slice_get facts) indices (drop i rest)) ∙ ap (facts_at facts) parts ∙ passed.are) in
    let there : suc i < length order = subst (λ ps. suc i < length ps) (sym split) (omega (arith, here)) in
    let others : All (λ p. (p == index) ≡ false) indices = subst (λ q. All (λ p. (p == q) ≡ false) indices) (ap (λ ps. get_or ps (suc i) 0) split) (others_before facts order (suc i) sorted there) in
    let one : list_any (λ one. are_apart limit facts one index) indices ≡ true =
    one_apart limit facts index f (slice_get-get_or facts index f within ∙ ap Some (sym is)) indices (All-take (λ p. p < length facts) (suc i) order (indices_within facts order sorted)) others (ap (list_all (λ g. allows limit g f)) are ∙ apart) in
    ap (list_any (λ one. are_apart limit facts one index)) (sym parts)
    ∙ list_any-append (λ one. are_apart limit facts one index) indices (drop i rest)
    ∙ ap (λ b. b || list_any (λ one. are_apart limit facts one index) (drop i rest)) one

-- the level `All` allows any two facts
pub none_apart : (facts : List Fact) (index : ℕ) (indices : List ℕ) → list_any (λ one. are_apart AllLevel facts one index) indices ≡ false
none_apart facts index [] = refl
none_apart facts index (p ∷ ps) = ap (λ b. b || list_any (λ one. are_apart AllLevel facts one index) ps) (never (not (p == index)) (slice_get facts p) (slice_get facts index)) ∙ none_apart facts index ps
  where
    free : (b : Bool) → not (not b || true) ≡ false
    free true = refl
    free false = refl

    never : (c : Bool) (a b : Option Fact) → (c && option_map_or (λ f. option_map_or (λ g. not (allows AllLevel f g)) b false) a false) ≡ false
    never true (Some f) (Some g) = free (are_duplicates f g)
    never c a b = refl
