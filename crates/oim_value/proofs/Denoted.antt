-- A text that is accepted as a number denotes exactly the units in `units_of`.
use Rattle.oim_value.proofs.Shared.{◌≡◌, ℕ, zero, suc, ◌+◌, ◌-◌, ◌*◌, ◌/◌, ◌^◌, ◌<◌, ◌≤◌, List, ◌++◌, length, Bool, true, false, refl, sym, ap, subst, ◌∙◌, Some, None, arith, not, if◌then◌else◌, ℤ, pos, negsuc, ◌*ℤ◌, unsigned_abs, IsTrue, nat_tests, mul-div_cancel, mul-le-mul_left, digits_value, digits_value_after, MOST_DIGITS, UNIT_PLACES, signed, is_negative, integer_part, both_parts, fraction_part, without_leading, without_trailing, is_number, is_short, Denotes, unsigned_abs-mul}
use Rattle.std.proofs.Math.IntN.{neg_ℤ}
use Rattle.oim_names.specs.declared.reason.Reason.TheVariants.{NumberForm, NumberDigits}
use Rattle.oim_value.specs.Units.{units_of, ShortNumbersDenote}
use Rattle.oim_value.proofs.Units.{unsigned_abs-signed, denotes_from}
use Rattle.oim_value.proofs.Fractions.{ten_some}

pub product_positive : (a p : ℕ) → 0 < p → 0 < suc a * p
product_positive a p some = let h : p * 1 ≤ p * suc a = mul-le-mul_left p (omega arith) in grind (arith, h)

pub no_negative : (x n : ℕ) → 0 < x → neg_ℤ (pos x) ≡ pos n → ⊥
no_negative zero n some e = omega arith
no_negative (suc x) n some e = cc

no_positive : (x n : ℕ) → 0 < x → pos x ≡ neg_ℤ (pos n) → ⊥
no_positive zero n some e = omega arith
no_positive (suc x) zero some e = cc
no_positive (suc x) (suc n) some e = cc

quotient : (b : Bool) (z : ℤ) (p n : ℕ) → 0 < p → z *ℤ pos p ≡ signed b n → z ≡ signed b (n / p)
quotient b z p n some e =
    let size : unsigned_abs z * p ≡ n = sym (unsigned_abs-mul z (pos p)) ∙ ap unsigned_abs e ∙ unsigned_abs-signed b n in
    let whole : n / p ≡ unsigned_abs z = ap (λ m. m / p) (sym size) ∙ mul-div_cancel (unsigned_abs z) some in
    rw whole (same b z p n some e)
  where
    same : (b : Bool) (z : ℤ) (p n : ℕ) → 0 < p → z *ℤ pos p ≡ signed b n → z ≡ signed b (unsigned_abs z)
    same false (pos a) p n some e = refl
    same false (negsuc a) p n some e = absurd (no_negative (suc a * p) n (product_positive a p some) e)
    same true (pos zero) p n some e = refl
    same true (pos (suc a)) p n some e = absurd (no_positive (suc a * p) n (product_positive a p some) e)
    same true (negsuc a) p n some e = refl

pub denotes_units : (t : List ℕ) (units : ℤ) → Denotes t units → units ≡ units_of t
denotes_units t units says = quotient (is_negative t) units (10 ^ length (fraction_part t)) (10 ^ UNIT_PLACES * digits_value 10 (both_parts t)) (ten_some (length (fraction_part t))) says.value

pub short_denotes : (t : List ℕ) → IsTrue (is_number t) → IsTrue (is_short t) → Denotes t (units_of t)
short_denotes t form short =
    let few : length (without_leading (integer_part t)) + length (without_trailing (fraction_part t)) ≤ MOST_DIGITS = grind (arith, nat_tests) in
    let digits : ℕ = digits_value_after 10 0 (without_leading (integer_part t) ++ without_trailing (fraction_part t)) in
    let says = denotes_from t (integer_part t) (fraction_part t) digits (length (without_trailing (fraction_part t))) (signed (is_negative t) (digits * 10 ^ (UNIT_PLACES - length (without_trailing (fraction_part t))))) refl refl form refl refl (omega arith) refl in
    subst (Denotes t) (denotes_units t _ says) says

accepted : (form short : Bool) → (if not form then Some NumberForm else (if not short then Some NumberDigits else None)) ≡ None → (form ≡ true) × (short ≡ true)
accepted true true h = (refl, refl)
accepted form short h = cc

pub short_numbers_denote : ShortNumbersDenote
short_numbers_denote t units none = (
  denotes_units t units,
  λ is. let both = accepted (is_number t) (is_short t) none in subst (Denotes t) (sym is) (short_denotes t both.0 both.1),
)
