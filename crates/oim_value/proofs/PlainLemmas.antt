-- Digits with leading zeros, and digits without trailing ones.
use Rattle.oim_value.proofs.Shared.{◌≡◌, ℕ, suc, zero, ◌+◌, ◌-◌, ◌^◌, ◌%◌, ◌<◌, ◌≤◌, true, false, cond, eqb, List, [], ◌∷◌, ◌++◌, length, take, length-append, refl, ap, arith, replicate, nat_tests, append-nil, length-replicate, list_all-append, decimal_by_steps_wide, decimal_is_IsNumeral_wide, IsAscii-decimal_wide, mod_below, IsAscii-append, digits_value_after, is_ascii_digit, list_all, IsAscii, UNIT_PLACES, onto_digit, without_trailing, with_leading_zeros}
use Rattle.std.specs.Fmt.{decimal, padded_integral, format_spec, char_count}

-- `{:0width$}` writes leading zeros up to the width
pub padded_integral-zeros : (ds : List ℕ) → padded_integral (format_spec 32 0 4 UNIT_PLACES (2 ^ 64 - 1)) false [] ds ≡ with_leading_zeros UNIT_PLACES ds
unfolding padded_integral char_count
padded_integral-zeros ds =
    let same : UNIT_PLACES - length ds - 0 - 0 ≡ UNIT_PLACES - length ds = omega arith in
    rw (append-nil ds) (ap (λ n. replicate n 48 ++ ds) same)

take_kept : (d : ℕ) (ds ws : List ℕ) → take (length ws) ds ≡ ws → take (length (onto_digit d ws)) (d ∷ ds) ≡ onto_digit d ws
take_kept d ds [] e = elim (eqb d 48) as (λ b. take (length (cond b [] (d ∷ []))) (d ∷ ds) ≡ cond b [] (d ∷ [])) [ true ↦ refl | false ↦ refl ]
take_kept d ds (w ∷ ws) e = ap (λ r. d ∷ r) e

pub take-without_trailing : (ds : List ℕ) → take (length (without_trailing ds)) ds ≡ without_trailing ds
take-without_trailing [] = refl
take-without_trailing (d ∷ ds) = take_kept d ds (without_trailing ds) (take-without_trailing ds)

IsAscii-replicate : (n : ℕ) → IsAscii (replicate n 48)
IsAscii-replicate (suc n) (suc i) = IsAscii-replicate n i
IsAscii-replicate n i = omega arith

pub IsAscii-with_zeros : (w n : ℕ) → n < 10 ^ 64 → IsAscii (with_leading_zeros w (decimal n))
IsAscii-with_zeros w n h = IsAscii-append (replicate (w - length (decimal n)) 48) (decimal n) (IsAscii-replicate (w - length (decimal n))) (IsAscii-decimal_wide n h)

-- ---- numerals, with zeros before them

pub digit_of : (n : ℕ) → n < 10 → is_ascii_digit (48 + n) ≡ true
digit_of n h = grind (arith, nat_tests)

push_digit : (n : ℕ) (ds : List ℕ) → list_all is_ascii_digit ds ≡ true → list_all is_ascii_digit (ds ++ (48 + n % 10) ∷ []) ≡ true
push_digit n ds e = rw (list_all-append is_ascii_digit ds ((48 + n % 10) ∷ []), e, digit_of (n % 10) (mod_below n 10 (omega arith)))

pub decimal_digits : (n : ℕ) → n < 10 ^ 64 → list_all is_ascii_digit (decimal n) ≡ true
decimal_digits n h = decimal_by_steps_wide (λ k ds. list_all is_ascii_digit ds ≡ true) (λ k small. rw (digit_of k small)) (λ k ds big e. push_digit k ds e) n h

pub decimal_value : (n : ℕ) → n < 10 ^ 64 → digits_value_after 10 0 (decimal n) ≡ n
decimal_value n h = (decimal_is_IsNumeral_wide n h).1

pub zeros_digits : (k : ℕ) (ds : List ℕ) → list_all is_ascii_digit ds ≡ true → list_all is_ascii_digit (replicate k 48 ++ ds) ≡ true
zeros_digits zero ds e = e
zeros_digits (suc k) ds e = zeros_digits k ds e

pub zeros_value : (k : ℕ) (ds : List ℕ) → digits_value_after 10 0 (replicate k 48 ++ ds) ≡ digits_value_after 10 0 ds
zeros_value zero ds = refl
zeros_value (suc k) ds = zeros_value k ds

pub length-with_zeros : (w : ℕ) (ds : List ℕ) → length ds ≤ w → length (with_leading_zeros w ds) ≡ w
length-with_zeros w ds h = omega (arith, length-append (replicate (w - length ds) 48) ds, length-replicate {A = ℕ} (w - length ds) 48)
