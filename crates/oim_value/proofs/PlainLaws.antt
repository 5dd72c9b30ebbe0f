-- A writable number has exactly one plain text.
use Rattle.oim_value.proofs.Shared.{◌≡◌, ◌≢◌, ℕ, zero, suc, ◌+◌, ◌*◌, ◌-◌, ◌^◌, ◌/◌, ◌%◌, ◌<◌, ◌≤◌, Bool, true, false, cond, eqb, List, [], ◌∷◌, ◌++◌, length, length-append, get_or, refl, sym, ap, ◌∙◌, arith, IsAscii-cons, IsAscii-nil, ℤ, pos, negsuc, ◌*ℤ◌, ◌<ℤ◌, unsigned_abs, false≢true, nat_tests, ints, unsigned_abs-mul, list_all-append, same_from_place, div-add-mod', mod_below, div_below, IsAscii-decimal_wide, length-decimal-le_wide, decimal_digit, is_ascii_digit, list_all, before_first, after_first, decimal, IsAscii, IsAscii-append, IsAscii-take, digits_value_after, UNIT_PLACES, onto_digit, is_point, without_trailing, signed, is_numeral, is_negative, integer_part, fraction_part, unsigned, with_leading_zeros, plain, sign_text, with_point, integer_digits, fraction_digits, has_point, IsPlain, IsWritable, FittingIsWritable, ShortIsWritable, PlainIsPlain, PlainIsOne, PlainIsAscii}
use Rattle.oim_value.proofs.Decimal.{decimal_some, decimal_first, decimal_of_digits}
use Rattle.oim_value.proofs.Numerals.{value_without_trailing, digits_without_trailing, parts_of_numeral}
use Rattle.oim_value.proofs.Fractions.{value_append, value_lt, same_fraction, ten_some, below_product, turned}
use Rattle.oim_value.proofs.Shapes.{below_zero, unsigned-sign_text, is_negative-sign_text, no_plus-sign_text, before_first-digits, after_first-digits, has_point-text, point_some, some_point, sign_apart, has_point-unsigned, point_apart}
use Rattle.oim_value.proofs.PlainLemmas.{decimal_digits, decimal_value, zeros_digits, zeros_value, length-with_zeros, take-without_trailing, IsAscii-with_zeros}
use Rattle.oim_value.proofs.Units.{short_bound, signed_times, unsigned_abs-signed}
use Rattle.oim_value.proofs.Denoted.{no_negative}

-- ---- the fraction digits of r units

pub fraction_digits_are : (r : ℕ) → r < 10 ^ UNIT_PLACES → list_all is_ascii_digit (with_leading_zeros UNIT_PLACES (decimal r)) ≡ true
fraction_digits_are r h = zeros_digits (UNIT_PLACES - length (decimal r)) (decimal r) (decimal_digits r (omega arith))

pub fraction_length : (r : ℕ) → r < 10 ^ UNIT_PLACES → length (with_leading_zeros UNIT_PLACES (decimal r)) ≡ UNIT_PLACES
fraction_length r h = length-with_zeros UNIT_PLACES (decimal r) (length-decimal-le_wide UNIT_PLACES r (omega arith) h (omega arith))

pub fraction_value : (r : ℕ) → r < 10 ^ UNIT_PLACES → digits_value_after 10 0 (with_leading_zeros UNIT_PLACES (decimal r)) ≡ r
fraction_value r h = zeros_value (UNIT_PLACES - length (decimal r)) (decimal r) ∙ decimal_value r (omega arith)

pub fraction_worth : (r : ℕ) → r < 10 ^ UNIT_PLACES → digits_value_after 10 0 (without_trailing (with_leading_zeros UNIT_PLACES (decimal r))) * 10 ^ UNIT_PLACES ≡ r * 10 ^ length (without_trailing (with_leading_zeros UNIT_PLACES (decimal r)))
fraction_worth r h = sym (rw (fraction_value r h, fraction_length r h) at (value_without_trailing 0 (with_leading_zeros UNIT_PLACES (decimal r))))

kept_onto : (d : ℕ) (ds : List ℕ) → without_trailing ds ≡ ds → without_trailing (onto_digit d ds) ≡ onto_digit d ds
kept_onto d [] e = elim (eqb d 48) as (λ b. eqb d 48 ≡ b → without_trailing (cond b [] (d ∷ [])) ≡ cond b [] (d ∷ [])) [ true ↦ λ h. refl | false ↦ λ h. rw h ] refl
kept_onto d (c ∷ cs) e = ap (onto_digit d) e

pub without_trailing-without_trailing : (ds : List ℕ) → without_trailing (without_trailing ds) ≡ without_trailing ds
without_trailing-without_trailing [] = refl
without_trailing-without_trailing (d ∷ ds) = kept_onto d (without_trailing ds) (without_trailing-without_trailing ds)

-- ---- `plain` returns a plain text

worth : (s q r d p v : ℕ) → q * d + r ≡ s → v * d ≡ r * p → s * p ≡ d * (q * p + v)
worth s q r d p v e f = rw (← e) (omega (arith, f))

signed_self : (m : ℤ) → signed (below_zero m) (unsigned_abs m) ≡ m
signed_self (pos n) = refl
signed_self (negsuc n) = refl

below_zero_is : (m : ℤ) → below_zero m ≡ true → m <ℤ pos 0
below_zero_is (pos n) e = absurd (false≢true e)
below_zero_is (negsuc n) e = omega (arith, ints)

numeral_from : (i f : List ℕ) → list_all is_ascii_digit i ≡ true → list_all is_ascii_digit f ≡ true → 0 < length i → is_numeral (i ++ f) ≡ true
numeral_from i f di df some =
    let all : list_all is_ascii_digit (i ++ f) ≡ true = rw (list_all-append is_ascii_digit i f, di, df) in
    let more : 0 < length (i ++ f) = omega (arith, length-append i f) in
    rw all (grind (arith, nat_tests))

plain_from : (t i f : List ℕ) (m : ℤ) → i ≡ integer_part t → f ≡ fraction_part t → is_negative t ≡ below_zero m → get_or t 0 0 ≢ 43 → has_point t ≡ has_point (with_point f) → list_all is_ascii_digit i ≡ true → list_all is_ascii_digit f ≡ true → 0 < length i → (get_or i 0 0 ≡ 48 → length i ≡ 1) → without_trailing f ≡ f → unsigned_abs m * 10 ^ length f ≡ 10 ^ UNIT_PLACES * digits_value_after 10 0 (i ++ f) → IsPlain t m
plain_from t i f m ei ef sign no_plus point di df some lone kept value = record {
  denotes = record {
    form = rw (ei, ef) at (numeral_from i f di df some);
    value = rw (sign, ← ei, ← ef) (rw (signed_self m) at (signed_times (below_zero m) (unsigned_abs m) (10 ^ length f) (10 ^ UNIT_PLACES * digits_value_after 10 0 (i ++ f)) value));
  };
  no_plus = no_plus;
  negative = λ h. below_zero_is m (sym sign ∙ h);
  some_integer = rw ei at some;
  no_leading_zero = rw ei at lone;
  point = (λ h. rw ef at (point_some f (sym point ∙ h)), λ h. point ∙ some_point f (rw (← ef) at h));
  no_trailing_zero = rw ef at kept;
}

lone_zero : (q : ℕ) → q < 10 ^ 64 → get_or (decimal q) 0 0 ≡ 48 → length (decimal q) ≡ 1
lone_zero zero small e = ap length (decimal_digit 0 (omega arith))
lone_zero (suc k) small e = absurd (omega (arith, decimal_first (suc k) (omega arith) small))

pub whole_small : (s : ℕ) → s < 10 ^ 64 → s / 10 ^ UNIT_PLACES < 10 ^ 64
whole_small s h = div_below s (10 ^ UNIT_PLACES) (10 ^ 64) (omega arith) (omega arith)

pub short_is_writable : ShortIsWritable
short_is_writable m short = omega (arith, short_bound m short)

pub fitting_is_writable : FittingIsWritable
fitting_is_writable (pos n) fits = omega (arith, fits.sfits)
fitting_is_writable (negsuc n) fits = omega (arith, fits.sfits)

-- the parts of a plain text are the digits that `plain` joins
pub record Parts (m : ℤ) : Type 0 where
  pub integer_digits_are : list_all is_ascii_digit (integer_digits (unsigned_abs m)) ≡ true
  pub some_integer : 0 < length (integer_digits (unsigned_abs m))
  pub integer : integer_part (plain m) ≡ integer_digits (unsigned_abs m)
  pub fraction : fraction_part (plain m) ≡ fraction_digits (unsigned_abs m)

pub parts_of_plain : (m : ℤ) → IsWritable m → Parts m
parts_of_plain m writable =
    let small : unsigned_abs m / 10 ^ UNIT_PLACES < 10 ^ 64 = whole_small (unsigned_abs m) writable in
    let i : List ℕ = integer_digits (unsigned_abs m) in
    let f : List ℕ = fraction_digits (unsigned_abs m) in
    let di : list_all is_ascii_digit i ≡ true = decimal_digits (unsigned_abs m / 10 ^ UNIT_PLACES) small in
    let some : 0 < length i = decimal_some (unsigned_abs m / 10 ^ UNIT_PLACES) small in
    let rest : unsigned (plain m) ≡ i ++ with_point f = unsigned-sign_text m i (with_point f) some di in
    record {
      integer_digits_are = di;
      some_integer = some;
      integer = ap (before_first is_point) rest ∙ before_first-digits i f di;
      fraction = ap (after_first is_point) rest ∙ after_first-digits i f di;
    }

pub plain_is_plain : PlainIsPlain
plain_is_plain m writable =
    let s : ℕ = unsigned_abs m in
    let q : ℕ = s / 10 ^ UNIT_PLACES in
    let r : ℕ = s % 10 ^ UNIT_PLACES in
    let small_q : q < 10 ^ 64 = whole_small s writable in
    let small_r : r < 10 ^ UNIT_PLACES = mod_below s (10 ^ UNIT_PLACES) (omega arith) in
    let i : List ℕ = integer_digits s in
    let f : List ℕ = fraction_digits s in
    let parts = parts_of_plain m writable in
    let df : list_all is_ascii_digit f ≡ true = digits_without_trailing (with_leading_zeros UNIT_PLACES (decimal r)) (fraction_digits_are r small_r) in
    let value : s * 10 ^ length f ≡ 10 ^ UNIT_PLACES * digits_value_after 10 0 (i ++ f) = rw (value_append i f, decimal_value q small_q) (worth s q r (10 ^ UNIT_PLACES) (10 ^ length f) (digits_value_after 10 0 f) (div-add-mod' s (10 ^ UNIT_PLACES)) (fraction_worth r small_r)) in
    plain_from (plain m) i f m
    (sym parts.integer)
    (sym parts.fraction)
    (is_negative-sign_text m i (with_point f) parts.some_integer parts.integer_digits_are)
    (no_plus-sign_text m i (with_point f) parts.some_integer parts.integer_digits_are)
    (has_point-text m i f parts.integer_digits_are)
    parts.integer_digits_are df parts.some_integer
    (lone_zero q small_q)
    (without_trailing-without_trailing (with_leading_zeros UNIT_PLACES (decimal r)))
    value

-- ---- a number has no other plain text

sign_of_denoted : (m : ℤ) (b : Bool) (k x : ℕ) → 0 < k → (b ≡ true → m <ℤ pos 0) → m *ℤ pos k ≡ signed b x → b ≡ below_zero m
sign_of_denoted (pos n) true k x some below e = let h = below refl in absurd (omega (arith, ints))
sign_of_denoted (negsuc n) false k x some below e = absurd (no_negative (suc n * k) x (let more : k ≤ suc n * k = grind arith in omega arith) e)
sign_of_denoted z b k x some below e = refl

cond-below_zero : (m : ℤ) → cond (below_zero m) (45 ∷ []) [] ≡ sign_text m
cond-below_zero (pos n) = refl
cond-below_zero (negsuc n) = refl

pub size_denoted : (m : ℤ) (b : Bool) (k x : ℕ) → m *ℤ pos k ≡ signed b x → unsigned_abs m * k ≡ x
size_denoted m b k x e = sym (unsigned_abs-mul m (pos k)) ∙ (ap unsigned_abs e ∙ unsigned_abs-signed b x)

places : (s q r d p v w : ℕ) → q * d + r ≡ s → s * p ≡ d * (v * p + w) → q * (d * p) + r * p ≡ v * (d * p) + w * d
places s q r d p v w e f = let g = rw (← e) at f in omega (arith, g)

pub plain_is_one : PlainIsOne
plain_is_one m t writable plain_text =
    let i : List ℕ = integer_part t in
    let f : List ℕ = fraction_part t in
    let s : ℕ = unsigned_abs m in
    let q : ℕ = s / 10 ^ UNIT_PLACES in
    let r : ℕ = s % 10 ^ UNIT_PLACES in
    let small_q : q < 10 ^ 64 = whole_small s writable in
    let small_r : r < 10 ^ UNIT_PLACES = mod_below s (10 ^ UNIT_PLACES) (omega arith) in
    let digits = parts_of_numeral i f plain_text.denotes.form in
    let sign : is_negative t ≡ below_zero m = sign_of_denoted m (is_negative t) (10 ^ length f) _ (ten_some (length f)) plain_text.negative plain_text.denotes.value in
    let size : s * 10 ^ length f ≡ 10 ^ UNIT_PLACES * (digits_value_after 10 0 i * 10 ^ length f + digits_value_after 10 0 f) = size_denoted m (is_negative t) (10 ^ length f) _ plain_text.denotes.value ∙ ap (λ v. 10 ^ UNIT_PLACES * v) (value_append i f) in
    let split = same_from_place q (r * 10 ^ length f) (digits_value_after 10 0 i) (digits_value_after 10 0 f * 10 ^ UNIT_PLACES) (10 ^ UNIT_PLACES * 10 ^ length f)
    (below_product r (10 ^ UNIT_PLACES) (10 ^ length f) small_r (ten_some (length f)))
    (turned (digits_value_after 10 0 f) (10 ^ UNIT_PLACES) (10 ^ length f) (value_lt f digits.1) (omega arith))
    (places s q r (10 ^ UNIT_PLACES) (10 ^ length f) _ _ (div-add-mod' s (10 ^ UNIT_PLACES)) size) in
    let integer : i ≡ integer_digits s = sym (decimal_of_digits i digits.0 plain_text.some_integer plain_text.no_leading_zero (rw (← split.0) small_q)) ∙ ap decimal (sym split.0) in
    let fraction : f ≡ fraction_digits s = sym plain_text.no_trailing_zero ∙ same_fraction f (with_leading_zeros UNIT_PLACES (decimal r)) digits.1 (fraction_digits_are r small_r) (rw (fraction_length r small_r, fraction_value r small_r) (sym split.1)) in
    let rest : unsigned t ≡ i ++ with_point f = point_apart (unsigned t) (λ h. plain_text.point.0 (has_point-unsigned t h)) in
    sign_apart t plain_text.no_plus ∙ (λ j. (ap (λ b. cond b (45 ∷ []) []) sign ∙ cond-below_zero m) j ++ (rest ∙ (λ k. integer k ++ with_point (fraction k))) j)

-- ---- the plain text is ASCII

pub IsAscii-sign_text : (m : ℤ) → IsAscii (sign_text m)
IsAscii-sign_text (pos n) = IsAscii-nil
IsAscii-sign_text (negsuc n) = IsAscii-cons 45 [] (omega arith) IsAscii-nil

IsAscii-with_point : (fs : List ℕ) → IsAscii fs → IsAscii (with_point fs)
IsAscii-with_point [] h = IsAscii-nil
IsAscii-with_point (f ∷ fs) h = IsAscii-cons 46 (f ∷ fs) (omega arith) h

IsAscii-fraction : (r : ℕ) → r < 10 ^ 64 → IsAscii (without_trailing (with_leading_zeros UNIT_PLACES (decimal r)))
IsAscii-fraction r h = rw (← take-without_trailing (with_leading_zeros UNIT_PLACES (decimal r))) (IsAscii-take (with_leading_zeros UNIT_PLACES (decimal r)) (length (without_trailing (with_leading_zeros UNIT_PLACES (decimal r)))) (IsAscii-with_zeros UNIT_PLACES r h))

pub plain_is_ascii : PlainIsAscii
plain_is_ascii m writable =
    let s : ℕ = unsigned_abs m in
    let small_q : s / 10 ^ UNIT_PLACES < 10 ^ 64 = whole_small s writable in
    let small_r : s % 10 ^ UNIT_PLACES < 10 ^ UNIT_PLACES = mod_below s (10 ^ UNIT_PLACES) (omega arith) in
    IsAscii-append (sign_text m) (integer_digits s ++ with_point (fraction_digits s)) (IsAscii-sign_text m)
    (IsAscii-append (integer_digits s) (with_point (fraction_digits s)) (IsAscii-decimal_wide (s / 10 ^ UNIT_PLACES) small_q)
    (IsAscii-with_point (fraction_digits s) (IsAscii-fraction (s % 10 ^ UNIT_PLACES) (omega arith))))
