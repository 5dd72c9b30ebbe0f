-- The plain text of a number: the only text that is written for it (own).
use Rattle.std.specs.Prelude.{◌≡◌, ◌≢◌, ◌↔◌, ℕ, ◌-◌, ◌/◌, ◌%◌, ◌^◌, ◌<◌, ℤ, pos, negsuc, ◌<ℤ◌, unsigned_abs, FitsSigned, Bool, IsTrue, List, [], ◌∷◌, ◌++◌, length, replicate, slice_index, None}
use Rattle.std.specs.List.{list_any}
use Rattle.std.specs.Fmt.{decimal}
use Rattle.std.specs.Int.{w128}
use Rattle.std.specs.Str.{IsAscii}
use Rattle.oim_value.specs.declared.limits.TheConstants.{UNIT_PLACES}
use Rattle.oim_value.specs.Number.{is_negative, is_point, integer_part, fraction_part, number_refusal, without_trailing, Denotes, IsShort}

-- a numeral with zeros on the left, up to a width; a longer numeral does not change
abbrev pub with_leading_zeros : ℕ → List ℕ → List ℕ
with_leading_zeros width ds = replicate (width - length ds) 48 ++ ds

-- a point before fraction digits, if there are any
abbrev pub with_point : List ℕ → List ℕ
with_point [] = []
with_point (d ∷ ds) = 46 ∷ d ∷ ds

-- the digits before the point, and the significant digits after it
abbrev pub integer_digits : ℕ → List ℕ
integer_digits size = decimal (size / 10 ^ UNIT_PLACES)

abbrev pub fraction_digits : ℕ → List ℕ
fraction_digits size = without_trailing (with_leading_zeros UNIT_PLACES (decimal (size % 10 ^ UNIT_PLACES)))

abbrev pub sign_text : ℤ → List ℕ
sign_text (pos n) = []
sign_text (negsuc n) = 45 ∷ []

-- a number of units as a text: `-` if it is negative, the integer digits, and a point with the fraction digits if there are any
abbrev pub plain : ℤ → List ℕ
plain units = sign_text units ++ (integer_digits (unsigned_abs units) ++ with_point (fraction_digits (unsigned_abs units)))

abbrev pub has_point : List ℕ → Bool
has_point t = list_any is_point t

-- the text denotes this number of units, with no superfluous sign, digit or point (own)
pub record IsPlain (t : List ℕ) (units : ℤ) : Type 0 where
  pub denotes : Denotes t units
  pub no_plus : slice_index t 0 ≢ 43
  pub negative : IsTrue (is_negative t) → units <ℤ pos 0
  pub some_integer : 0 < length (integer_part t)
  pub no_leading_zero : slice_index (integer_part t) 0 ≡ 48 → length (integer_part t) ≡ 1
  pub point : IsTrue (has_point t) ↔ (0 < length (fraction_part t))
  pub no_trailing_zero : without_trailing (fraction_part t) ≡ fraction_part t

-- the units have at most 64 digits, the limit of `decimal`; an i128 has at most 39
abbrev pub IsWritable : ℤ → Type 0
IsWritable units = unsigned_abs units < 10 ^ 64

-- every number of units that fits an `i128` is writable
abbrev pub FittingIsWritable : Type 0
FittingIsWritable = (units : ℤ) → FitsSigned w128 units → IsWritable units

abbrev pub ShortIsWritable : Type 0
ShortIsWritable = (units : ℤ) → IsShort units → IsWritable units

-- `plain` returns a plain text of a writable number
abbrev pub PlainIsPlain : Type 0
PlainIsPlain = (units : ℤ) → IsWritable units → IsPlain (plain units) units

-- a writable number has no other plain text
abbrev pub PlainIsOne : Type 0
PlainIsOne = (units : ℤ) (t : List ℕ) → IsWritable units → IsPlain t units → t ≡ plain units

abbrev pub PlainIsAscii : Type 0
PlainIsAscii = (units : ℤ) → IsWritable units → IsAscii (plain units)

-- the text denotes this number of units, and is not refused
pub record IsReadAs (t : List ℕ) (units : ℤ) : Type 0 where
  pub denotes : Denotes t units
  pub accepted : number_refusal t ≡ None

-- the plain text of a short number is read as that number
abbrev pub PlainReadsBack : Type 0
PlainReadsBack = (units : ℤ) → IsShort units → IsReadAs (plain units) units

-- writable numbers with the same plain text are equal
abbrev pub PlainTellsApart : Type 0
PlainTellsApart = (m n : ℤ) → IsWritable m → IsWritable n → plain m ≡ plain n → m ≡ n
