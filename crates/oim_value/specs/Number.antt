-- Decimal numbers as texts (XML Schema Part 2, section 3.2.3, `decimal`). The bytes are 43 for `+`, 45 for `-`, 46 for `.` and 48
-- for `0`.
use Rattle.std.specs.Prelude.{◌≡◌, ℕ, ◌+◌, ◌-◌, ◌*◌, ◌^◌, ◌<◌, ◌≤◌, nat_lt, nat_le, ℤ, pos, ◌*ℤ◌, unsigned_abs, Bool, true, false, ◌&&◌, ◌||◌, not, ◌==◌, if◌then◌else◌, IsTrue, List, [], ◌∷◌, ◌++◌, length, Option, Some, None}
use Rattle.std.specs.List.{before_first, after_first, list_all}
use Rattle.std.specs.Char.{is_ascii_digit}
use Rattle.std.specs.Str.Parse.{digits_value}
use Rattle.oim_names.specs.declared.reason.Reason.{Reason}
use Rattle.oim_names.specs.declared.reason.Reason.TheVariants.{NumberForm, NumberDigits}
use Rattle.oim_value.specs.declared.limits.TheConstants.{MOST_DIGITS, UNIT_PLACES}
use lib.IntN.{neg_ℤ}

abbrev pub is_negative : List ℕ → Bool
is_negative [] = false
is_negative (c ∷ cs) = c == 45

-- the text without one leading `+` or `-`
abbrev pub unsigned : List ℕ → List ℕ
unsigned [] = []
unsigned (c ∷ cs) = if c == 43 || c == 45 then cs else c ∷ cs

abbrev pub is_point : ℕ → Bool
is_point c = c == 46

-- without the sign: the text before the first point, the text after this point, and both joined
abbrev pub integer_part : List ℕ → List ℕ
integer_part t = before_first is_point (unsigned t)

abbrev pub fraction_part : List ℕ → List ℕ
fraction_part t = after_first is_point (unsigned t)

abbrev pub both_parts : List ℕ → List ℕ
both_parts t = integer_part t ++ fraction_part t

-- one or more digits
abbrev pub is_numeral : List ℕ → Bool
is_numeral ds = nat_lt 0 (length ds) && list_all is_ascii_digit ds

-- an optional sign and one or more digits, with at most one point
abbrev pub is_number : List ℕ → Bool
is_number t = is_numeral (both_parts t)

-- -n if the flag is true, otherwise n
abbrev pub signed : Bool → ℕ → ℤ
signed true n = neg_ℤ (pos n)
signed false n = pos n

-- the text denotes this number of units: units * 10^p = 10^UNIT_PLACES * n, for p digits after the point and the signed number n
-- that all digits denote
pub record Denotes (t : List ℕ) (units : ℤ) : Type 0 where
  pub form : IsTrue (is_number t)
  pub value : units *ℤ pos (10 ^ length (fraction_part t)) ≡ signed (is_negative t) (10 ^ UNIT_PLACES * digits_value 10 (both_parts t))

-- digits without their leading zeros; zeros alone become the empty list
abbrev pub without_leading : List ℕ → List ℕ
without_leading [] = []
without_leading (c ∷ cs) = if c == 48 then without_leading cs else c ∷ cs

-- a digit before digits that have no trailing zeros; a zero is dropped if no digits follow
abbrev pub onto_digit : ℕ → List ℕ → List ℕ
onto_digit c [] = if c == 48 then [] else c ∷ []
onto_digit c (d ∷ ds) = c ∷ d ∷ ds

abbrev pub without_trailing : List ℕ → List ℕ
without_trailing [] = []
without_trailing (c ∷ cs) = onto_digit c (without_trailing cs)

-- the number of significant digits: leading zeros before the point and trailing zeros after it do not count (own)
abbrev pub counted : List ℕ → ℕ
counted t = length (without_leading (integer_part t)) + length (without_trailing (fraction_part t))

-- at most MOST_DIGITS digits are significant (own)
abbrev pub is_short : List ℕ → Bool
is_short t = nat_le (counted t) MOST_DIGITS

-- why a text is refused as a number, or None (own)
abbrev pub number_refusal : List ℕ → Option Reason
number_refusal t =
    if not (is_number t) then Some NumberForm else (if not (is_short t) then Some NumberDigits else None)

-- a short number (own): an integer of at most MOST_DIGITS digits, with the point moved left by at most MOST_DIGITS places
pub record IsShort (units : ℤ) : Type 0 where
  pub number : ℕ
  pub places : ℕ
  pub few : number < 10 ^ MOST_DIGITS
  pub within : places ≤ MOST_DIGITS
  pub is : unsigned_abs units ≡ number * 10 ^ (UNIT_PLACES - places)

-- a text denotes at most one number
abbrev pub DenotesOne : Type 0
DenotesOne = (t : List ℕ) (m n : ℤ) → Denotes t m → Denotes t n → m ≡ n

-- if a short text denotes a number, the number is short
abbrev pub ShortIsKept : Type 0
ShortIsKept = (t : List ℕ) (units : ℤ) → Denotes t units → IsTrue (is_short t) → IsShort units
