-- The size of short numbers in units, and the number of units that a text denotes.
use Rattle.oim_value.proofs.Shared.{◌≡◌, ◌+◌, ℕ, List, ◌++◌, length, ◌*◌, ◌-◌, ◌^◌, ◌<◌, ◌≤◌, Bool, true, false, zero, suc, refl, sym, ap, ◌∙◌, arith, ℤ, pos, ◌*ℤ◌, unsigned_abs, IsTrue, pow-le-pow_right, mul-le-mul_left, digits_value_after, MOST_DIGITS, UNIT_PLACES, signed, integer_part, fraction_part, is_negative, is_number, without_leading, without_trailing, Denotes, IsShort}
use Rattle.std.proofs.Math.IntN.{neg_ℤ}
use Rattle.oim_value.proofs.Numerals.{whole_value}

pub size_bound : (n e : ℕ) → n < 10 ^ MOST_DIGITS → e ≤ UNIT_PLACES → n * 10 ^ e < 10 ^ (MOST_DIGITS + UNIT_PLACES)
size_bound n e few within =
    let p : 10 ^ e ≤ 10 ^ UNIT_PLACES = pow-le-pow_right (omega arith) within in
    let q : n * 10 ^ e ≤ n * 10 ^ UNIT_PLACES = mul-le-mul_left n p in
    omega arith

pub short_bound : (z : ℤ) → IsShort z → unsigned_abs z < 10 ^ (MOST_DIGITS + UNIT_PLACES)
short_bound z h = rw h.is (size_bound h.number (UNIT_PLACES - h.places) h.few (omega arith))

pub unsigned_abs-signed : (b : Bool) (n : ℕ) → unsigned_abs (signed b n) ≡ n
unsigned_abs-signed true zero = refl
unsigned_abs-signed b n = refl

pub signed_times : (b : Bool) (m k n : ℕ) → m * k ≡ n → signed b m *ℤ pos k ≡ signed b n
signed_times true zero k n e =
    let none : 0 * k ≡ 0 = omega arith in
    ap pos none ∙ ap (λ m. neg_ℤ (pos m)) (sym none ∙ e)
signed_times true (suc m) k n e = ap (λ m. neg_ℤ (pos m)) e
signed_times false m k n e = ap pos e

pub short_signed : (b : Bool) (n p : ℕ) → n < 10 ^ MOST_DIGITS → p ≤ MOST_DIGITS → IsShort (signed b (n * 10 ^ (UNIT_PLACES - p)))
short_signed b n p few within = record { number = n; places = p; few = few; within = within; is = unsigned_abs-signed b (n * 10 ^ (UNIT_PLACES - p)) }

pub ten_to : (i j : ℕ) → i ≤ j → 10 ^ i ≤ 10 ^ j
ten_to i j h = pow-le-pow_right {n = 10} (omega arith) {i = i} {j = j} h

-- a text denotes the number that its significant digits denote, scaled to units
pub denotes_from : (t i f : List ℕ) (n p : ℕ) (z : ℤ) → i ≡ integer_part t → f ≡ fraction_part t → IsTrue (is_number t) → n ≡ digits_value_after 10 0 (without_leading i ++ without_trailing f) → p ≡ length (without_trailing f) → p ≤ MOST_DIGITS → z ≡ signed (is_negative t) (n * 10 ^ (UNIT_PLACES - p)) → Denotes t z
denotes_from t i f n p z ei ef form en ep le ez = record {
  form = form;
  value = rw (ez, en) (signed_times (is_negative t) _ _ _ (rw (← ei, ← ef) (whole_value i f (UNIT_PLACES - p) (omega arith))));
}
