-- In a strictly ascending list, the rank of a member is its index plus one.
use Rattle.oim_write.proofs.Shared.{◌≡◌, ℕ, zero, suc, ◌-◌, ◌^◌, ◌/◌, ◌<◌, ◌≤◌, false, cond, nat_lt, refl, sym, ap, ◌∙◌, arith, ⊎_elim, ◌+◌, ◌%◌, List, [], ◌∷◌, ◌++◌, length, length-append, get_or, Bool, true, add-one, cond-true, cond-false, cases_Bool, lt-ltb, cases_lt, nat_tests, digit_value_digit, digit_value, IsTotalOrder, tied_itself, nat_cmp_total, nat_cmp_is, slice_cmp, Ordering, Less, Equal, Greater, nat_cmp, ordering_then, is_lt, ordering_reverse, count_by, Contains, IsPartitionPoint, IsPartitionedBy, IsStrictlySortedBy, get_or_default, less_is, nat_list_cmp_total, exact_bytes, QName, name_cmp, IsSet, text_cmp, name_text, prefix}
use Rattle.std.proofs.Math.Nat.{pow-suc, pow-zero}
use Rattle.oim_write.specs.Rank.{digits_up_to, width, padded, PaddedWritesNumber, PaddedKeepsOrder, IsFewestDigits, WidthIsFewestDigits, rank, RanksAreWithin}
use Rattle.std.proofs.lemmas.Int.Digits.{digits_push, digits_value_push}
use Rattle.std.specs.Str.Parse.{AllDigits, digits_value}
use Rattle.std.proofs.lemmas.List.Sums.{sum_by-cons}
use Rattle.std.proofs.lemmas.Map.Keys.{Less-from_sorted}
use mathlib.Core.Bool.{true≢false}

-- ---- one digit at a time; the bound of `digits_up_to` does not matter if it is at least the number

up_to_any : (j k n : ℕ) → n ≤ j → n ≤ k → digits_up_to j n ≡ digits_up_to k n
unfolding digits_up_to
up_to_any zero zero n h p = refl
up_to_any zero (suc k) n h p = sym (cond-true (nat_lt n 10) 1 (suc (digits_up_to k (n / 10))) (lt-ltb n 10 (omega arith)))
up_to_any (suc j) zero n h p = cond-true (nat_lt n 10) 1 (suc (digits_up_to j (n / 10))) (lt-ltb n 10 (omega arith))
up_to_any (suc j) (suc k) n h p =
    ⊎_elim
    (λ small. cond-true (nat_lt n 10) 1 (suc (digits_up_to j (n / 10))) small ∙ sym (cond-true (nat_lt n 10) 1 (suc (digits_up_to k (n / 10))) small))
    (λ large. let many : 10 ≤ n = grind (arith, nat_tests) in ap (λ d. cond (nat_lt n 10) 1 (suc d)) (up_to_any j k (n / 10) (omega arith) (omega arith)))
    (cases_Bool (nat_lt n 10))

pub width_small : (n : ℕ) → n < 10 → width n ≡ 1
unfolding digits_up_to
width_small zero h = refl
width_small (suc n) h = cond-true _ 1 _ (lt-ltb (suc n) 10 h)

pub width_large : (n : ℕ) → 10 ≤ n → width n ≡ suc (width (n / 10))
unfolding digits_up_to
width_large zero h = absurd (omega arith)
width_large (suc n) h =
    let large : nat_lt (suc n) 10 ≡ false = grind (arith, nat_tests) in
    cond-false _ 1 _ large ∙ ap suc (up_to_any n (suc n / 10) (suc n / 10) (omega arith) (omega arith))

pub fewer_digits : (room n : ℕ) → 10 ≤ n → n < 10 ^ room → (2 ≤ room) × (n / 10 < 10 ^ (room - 1))
fewer_digits zero n many fits = absurd (omega (arith, pow-zero 10))
fewer_digits (suc zero) n many fits = absurd (omega (arith, pow-suc 10 0, pow-zero 10))
fewer_digits (suc (suc room)) n many fits = let one : suc (suc room) - 1 ≡ suc room = omega arith in (omega arith, rw one (omega (arith, pow-suc 10 (suc room))))

-- ---- the value of a padded number

last_digit : (n : ℕ) → digit_value (48 + n % 10) ≡ n % 10
last_digit n = omega (arith, digit_value_digit (48 + n % 10) (omega arith, omega arith))

front_fits : (w n : ℕ) → n < 10 ^ suc w → n / 10 < 10 ^ w
front_fits w n h = omega (arith, pow-suc 10 w)

pub length-padded : (w n : ℕ) → length (padded w n) ≡ w
unfolding padded
length-padded zero n = refl
length-padded (suc w) n = omega (arith, length-append (padded w (n / 10)) ((48 + n % 10) ∷ []), length-padded w (n / 10))

padded_digits : (w n : ℕ) → AllDigits 10 (padded w n)
unfolding padded
padded_digits zero n = tt
padded_digits (suc w) n = digits_push 10 (padded w (n / 10)) (48 + n % 10) (padded_digits w (n / 10)) (omega (arith, last_digit n))

padded_value : (w n : ℕ) → n < 10 ^ w → digits_value 10 (padded w n) ≡ n
unfolding padded
padded_value zero n h = omega (arith, pow-zero 10)
padded_value (suc w) n h = omega (arith, digits_value_push 10 (padded w (n / 10)) (48 + n % 10), padded_value w (n / 10) (front_fits w n h), last_digit n)

pub padded_writes_number : PaddedWritesNumber
padded_writes_number w n h = record { long = length-padded w n; decimal = padded_digits w n; value = padded_value w n h }

-- ---- the width

one_digit : (n : ℕ) → n < 10 → IsFewestDigits n (width n)
one_digit n h = let one : width n ≡ 1 = width_small n h in
    record { some = omega (arith, one); enough = rw one (omega arith); fewest = λ k some fits. omega (arith, one) }

none_fewer : (n w k : ℕ) → 10 ≤ n → ((j : ℕ) → 1 ≤ j → n / 10 < 10 ^ j → w ≤ j) → 1 ≤ k → n < 10 ^ k → suc w ≤ k
none_fewer n w zero many rest some fits = absurd (omega arith)
none_fewer n w (suc zero) many rest some fits = absurd (omega (arith, pow-suc 10 0, pow-zero 10))
none_fewer n w (suc (suc k)) many rest some fits = omega (arith, rest (suc k) (omega arith) (front_fits (suc k) n fits))

one_more : (n w : ℕ) → 10 ≤ n → IsFewestDigits (n / 10) w → IsFewestDigits n (suc w)
one_more n w many rest = record {
  some = omega arith;
  enough = omega (arith, pow-suc 10 w, rest.enough);
  fewest = λ k some fits. none_fewer n w k many rest.fewest some fits;
}

fewest_up_to : (most n : ℕ) → n ≤ most → IsFewestDigits n (width n)
fewest_up_to zero n h = one_digit n (omega arith)
fewest_up_to (suc most) n h = ⊎_elim
    (one_digit n)
    (λ many. rw (width_large n many) (one_more n (width (n / 10)) many (fewest_up_to most (n / 10) (omega arith))))
    (cases_lt n 10)

pub width_is_fewest_digits : WidthIsFewestDigits
width_is_fewest_digits n = fewest_up_to n n (omega arith)

-- ---- the order

module _ {K : Type 0} {R : K → K → Ordering} (o : IsTotalOrder R) where
  pub after_front : (front xs ys : List K) → slice_cmp R (front ++ xs) (front ++ ys) ≡ slice_cmp R xs ys
  after_front [] xs ys = refl
  after_front (x ∷ front) xs ys = ap (λ r. ordering_then r (slice_cmp R (front ++ xs) (front ++ ys))) (tied_itself o x) ∙ after_front front xs ys

pub front_decides : (xs ys us vs : List ℕ) → length xs ≡ length ys → slice_cmp nat_cmp xs ys ≡ Less → slice_cmp nat_cmp (xs ++ us) (ys ++ vs) ≡ Less
front_decides [] [] us vs long less = cc
front_decides (x ∷ xs) (y ∷ ys) us vs long less =
    (elim (nat_cmp x y) as (λ r. ordering_then r (slice_cmp nat_cmp xs ys) ≡ Less → ordering_then r (slice_cmp nat_cmp (xs ++ us) (ys ++ vs)) ≡ Less) [
      | Less ↦ λ e. refl
      | Equal ↦ λ e. front_decides xs ys us vs (omega (arith, long)) e
      | Greater ↦ λ e. e
    ]) less
front_decides xs ys us vs long less = absurd (omega (arith, long))

less_byte : (m n : ℕ) → m < n → slice_cmp nat_cmp (m ∷ []) (n ∷ []) ≡ Less
less_byte m n h = ap (λ r. ordering_then r Equal) (sym (nat_cmp_is m n Less h))

pub padded_keeps_order : PaddedKeepsOrder
unfolding padded
padded_keeps_order zero m n less fits = absurd (omega (arith, pow-zero 10))
padded_keeps_order (suc w) m n less fits = ⊎_elim
    (λ below.
    front_decides (padded w (m / 10)) (padded w (n / 10)) _ _ (omega (arith, length-padded w (m / 10), length-padded w (n / 10))) (padded_keeps_order w (m / 10) (n / 10) below (front_fits w n fits)))
    (λ last.
    let same : m / 10 ≡ n / 10 = omega arith in
    ap (λ k. slice_cmp nat_cmp (padded w k ++ (48 + m % 10) ∷ []) (padded w (n / 10) ++ (48 + n % 10) ∷ [])) same
    ∙ after_front nat_cmp_total (padded w (n / 10)) _ _
    ∙ less_byte (48 + m % 10) (48 + n % 10) (omega arith))
    (cases_lt (m / 10) (n / 10))

-- ---- the rank of a member

one_counted : (b : Bool) (n m : ℕ) → b ≡ true → n ≡ m → cond b 1 0 + n ≡ suc m
one_counted true n m e h = omega arith
one_counted false n m e h = cc

pub count_at : {K : Type 0} (p : K → Bool) (xs : List K) (i : ℕ) → i ≤ length xs → IsPartitionPoint (λ y. p y ≡ true) (λ y. p y ≡ false) xs i → count_by p xs ≡ i
count_at p [] i h point = omega arith
count_at p (x ∷ xs) zero h point =
    let none : count_by p xs ≡ 0 = count_at p xs zero (omega arith) ((λ k d low high. absurd (omega arith)), (λ k d low high. point.1 (suc k) d (omega arith) (omega arith))) in
    sum_by-cons (λ y. cond (p y) 1 0) x xs ∙ (λ i. cond (point.1 zero x (omega arith) (omega arith) i) 1 0 + none i)
count_at p (x ∷ xs) (suc i) h point =
    let rest : count_by p xs ≡ i = count_at p xs i (omega arith) ((λ k d low high. point.0 (suc k) d (omega arith) (omega arith)), (λ k d low high. point.1 (suc k) d (omega arith) (omega arith))) in
    sum_by-cons (λ y. cond (p y) 1 0) x xs ∙ one_counted (p x) _ _ (point.0 zero x (omega arith) (omega arith)) rest

pub parted : {K : Type 0} {R : K → K → Ordering} (o : IsTotalOrder R) (xs : List K) (x : K) → IsStrictlySortedBy R xs → IsPartitionedBy (λ y. is_lt (R y x)) xs
parted {R = R} o xs x rises i j d h below e = ⊎_elim
    (λ apart. ap is_lt (o.trans (get_or xs i d) (get_or xs j d) x (Less-from_sorted R xs i j d rises apart below) (less_is _ e)))
    (λ after. let same : i ≡ j = omega arith in ap (λ k. is_lt (R (get_or xs k d) x)) same ∙ e)
    (cases_lt i j)

before : {K : Type 0} (R : K → K → Ordering) (xs : List K) (i j : ℕ) (d e : K) → IsStrictlySortedBy R xs → i < j → j < length xs → R (get_or xs i d) (get_or xs j e) ≡ Less
before R xs i j d e rises apart within = ap (λ x. R x (get_or xs j e)) (get_or_default xs i d e (omega arith)) ∙ Less-from_sorted R xs i j e rises apart within

pub not_after : {K : Type 0} {R : K → K → Ordering} (o : IsTotalOrder R) (xs : List K) (i j : ℕ) (d e : K) → IsStrictlySortedBy R xs → i ≤ j → j < length xs → is_lt (R (get_or xs j e) (get_or xs i d)) ≡ false
not_after {R = R} o xs i j d e rises order within = ⊎_elim
    (λ apart. ap is_lt (o.antisymm (get_or xs j e) (get_or xs i d) ∙ ap ordering_reverse (before R xs i j d e rises apart within)))
    (λ after. let same : j ≡ i = omega arith in
    ap is_lt (ap (λ x. R x (get_or xs i d)) (ap (λ k. get_or xs k e) same ∙ get_or_default xs i e d (omega arith)) ∙ tied_itself o (get_or xs i d)))
    (cases_lt i j)

pub rank_at : {K : Type 0} {R : K → K → Ordering} (o : IsTotalOrder R) (xs : List K) (i : ℕ) (d : K) → IsStrictlySortedBy R xs → i < length xs → rank R (get_or xs i d) xs ≡ i + 1
rank_at {R = R} o xs i d rises h =
    let index : count_by (λ y. is_lt (R y (get_or xs i d))) xs ≡ i = count_at (λ y. is_lt (R y (get_or xs i d))) xs i (omega arith)
    ((λ k e low high. ap is_lt (before R xs k i e d rises high h)), (λ k e low high. not_after o xs i k d e rises low high)) in
    ap suc index ∙ sym (add-one i)

pub ranks_are_within : {K : Type 0} {R : K → K → Ordering} (o : IsTotalOrder R) → RanksAreWithin R
ranks_are_within {R = R} o members x rises (i, within, there) =
    let index : rank R x members ≡ i + 1 = ap (λ y. rank R y members) (sym there) ∙ rank_at o members i x rises within in
    (omega (arith, index), omega (arith, index))

-- ---- prefixes are numbered in the order of their URIs, so spelled names keep the order of names

module _ (us : List (List ℕ)) (rises : IsSet text_cmp us) where
  rank_of : (u : List ℕ) (there : Contains us u) → rank text_cmp u us ≡ there.0 + 1
  rank_of u there = ap (λ v. rank text_cmp v us) (sym there.2) ∙ rank_at nat_list_cmp_total us there.0 u rises there.1

  index_before : (u v : List ℕ) (there : Contains us u) (other : Contains us v) → text_cmp u v ≡ Less → there.0 < other.0
  index_before u v there other below = ⊎_elim
      (λ before. before)
      (λ back. absurd (true≢false (sym (ap is_lt (ap (λ w. text_cmp w (get_or us other.0 v)) there.2 ∙ ap (text_cmp u) other.2 ∙ below)) ∙ not_after nat_list_cmp_total us other.0 there.0 v u rises back there.1)))
      (cases_lt there.0 other.0)

  ranks_keep_order : (u v : List ℕ) → Contains us u → Contains us v → text_cmp u v ≡ Less → rank text_cmp u us < rank text_cmp v us
  ranks_keep_order u v there other below = omega (arith, rank_of u there, rank_of v other, index_before u v there other below)

  prefixes_keep_order : (u v s t : List ℕ) → Contains us u → Contains us v → text_cmp u v ≡ Less → text_cmp (prefix us u ++ s) (prefix us v ++ t) ≡ Less
  prefixes_keep_order u v s t there other below =
      let most = width (length us) in
      let fits : rank text_cmp v us < 10 ^ most = omega (arith, (ranks_are_within nat_list_cmp_total us v rises other).1, (width_is_fewest_digits (length us)).enough) in
      front_decides (padded most (rank text_cmp u us)) (padded most (rank text_cmp v us)) s t
      (length-padded most (rank text_cmp u us) ∙ sym (length-padded most (rank text_cmp v us)))
      (padded_keeps_order most (rank text_cmp u us) (rank text_cmp v us) (ranks_keep_order u v there other below) fits)

  pub names_keep_order : (m n : QName) → Contains us m.uri → Contains us n.uri → name_cmp m n ≡ Less → text_cmp (name_text us m) (name_text us n) ≡ Less
  names_keep_order m n there other below =
      elim (text_cmp m.uri n.uri) as (λ o. text_cmp m.uri n.uri ≡ o → ordering_then o (text_cmp m.local_part n.local_part) ≡ Less → text_cmp (name_text us m) (name_text us n) ≡ Less) [
        | Less ↦ λ first _. prefixes_keep_order m.uri n.uri (58 ∷ m.local_part) (58 ∷ n.local_part) there other first
        | Equal ↦ λ same second.
            ap (λ u. text_cmp (prefix us u ++ 58 ∷ m.local_part) (name_text us n)) (exact_bytes m.uri n.uri same)
            ∙ after_front nat_cmp_total (prefix us n.uri) (58 ∷ m.local_part) (58 ∷ n.local_part) ∙ second
        | Greater ↦ λ _ never. cc
      ] refl below
