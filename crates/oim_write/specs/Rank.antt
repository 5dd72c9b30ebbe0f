-- The ranks of the members of a set, from 1, and the texts of these ranks, padded to one width (own). In bytes, `0` is 48.
use Rattle.std.specs.Prelude.{◌≡◌, ℕ, zero, suc, ◌+◌, ◌/◌, ◌%◌, ◌^◌, ◌<◌, ◌≤◌, List, [], ◌∷◌, ◌++◌, length, count_by, nat_lt, if◌then◌else◌, Contains}
use Rattle.std.specs.declared.cmp.Ordering.{Ordering}
use Rattle.std.specs.Ordering.{is_lt, nat_cmp}
use Rattle.std.specs.declared.cmp.Ordering.TheVariants.{Less}
use Rattle.std.specs.Cmp.Lexicographic.{slice_cmp}
use Rattle.std.specs.List.Sorted.{IsStrictlySortedBy}
use Rattle.std.specs.Str.Parse.{AllDigits, digits_value}

-- one more than the number of members smaller than x
abbrev pub rank : {K : Type 0} → (K → K → Ordering) → K → List K → ℕ
rank R x members = suc (count_by (λ y. is_lt (R y x)) members)

-- n written with this many digits: with zeros in front if n has fewer digits, and only its last digits if n has more
unfoldable pub padded : ℕ → ℕ → List ℕ
padded zero n = []
padded (suc width) n = padded width (n / 10) ++ (48 + n % 10) ∷ []

-- the number of digits of n, but at most `most` + 1
unfoldable pub digits_up_to : ℕ → ℕ → ℕ
digits_up_to zero n = 1
digits_up_to (suc most) n = if nat_lt n 10 then 1 else suc (digits_up_to most (n / 10))

abbrev pub width : ℕ → ℕ
width n = digits_up_to n n

-- a letter and the rank of x, padded to the width of the highest rank
abbrev pub numbered : {K : Type 0} → ℕ → (K → K → Ordering) → K → List K → List ℕ
numbered letter R x members = letter ∷ padded (width (length members)) (rank R x members)

-- ---- laws

-- the text has this many bytes, all decimal digits, and its value is n
pub record IsNumeralOf (digits n : ℕ) (text : List ℕ) : Type 0 where
  pub long : length text ≡ digits
  pub decimal : AllDigits 10 text
  pub value : digits_value 10 text ≡ n

abbrev pub PaddedWritesNumber : Type 0
PaddedWritesNumber = (digits n : ℕ) → n < 10 ^ digits → IsNumeralOf digits n (padded digits n)

-- `digits` is the smallest number of digits, at least 1, that can write n
pub record IsFewestDigits (n digits : ℕ) : Type 0 where
  pub some : 1 ≤ digits
  pub enough : n < 10 ^ digits
  pub fewest : (k : ℕ) → 1 ≤ k → n < 10 ^ k → digits ≤ k

abbrev pub WidthIsFewestDigits : Type 0
WidthIsFewestDigits = (n : ℕ) → IsFewestDigits n (width n)

-- each member of a set has a rank from 1 to the number of members
abbrev pub RanksAreWithin : {K : Type 0} → (K → K → Ordering) → Type 0
RanksAreWithin {K} R = (members : List K) (x : K) → IsStrictlySortedBy R members → Contains members x → (1 ≤ rank R x members) × (rank R x members ≤ length members)

-- if two numbers fit in a width, the padded text of the smaller number is first in byte order
abbrev pub PaddedKeepsOrder : Type 0
PaddedKeepsOrder = (digits m n : ℕ) → m < n → n < 10 ^ digits → slice_cmp nat_cmp (padded digits m) (padded digits n) ≡ Less
