-- The digits that `decimal` returns for numbers of at most 64 digits.
use Rattle.oim_value.proofs.Shared.{◌≡◌, ℕ, ◌+◌, ◌*◌, ◌/◌, ◌%◌, ◌^◌, ◌<◌, true, List, [], ◌∷◌, ◌++◌, length, get_or, append_assoc, length-append, sym, ap, ◌∙◌, arith, append-nil, decimal_digit, decimal_step_wide, decimal_by_steps_wide, and_parts, digit_value, is_ascii_digit, list_all, decimal, digits_value_after}
use Rattle.std.proofs.Math.ListN.{get_or-append}
use Rattle.oim_value.proofs.Numerals.{after_grows, digit_is, digit_small}

lead : (n : ℕ) → n < 10 ^ 64 → (0 < length (decimal n)) × (0 < n → 48 < get_or (decimal n) 0 0)
lead n small =
    decimal_by_steps_wide (λ m ds. (0 < length ds) × (0 < m → 48 < get_or ds 0 0))
    (λ m l. (omega arith, λ some. omega arith))
    (λ m ds l h. (omega (arith, length-append ds ((48 + m % 10) ∷ [])), λ some. omega (arith, get_or-append ds ((48 + m % 10) ∷ []) 0 0 h.0, h.1 (omega arith))))
    n small

pub decimal_some : (n : ℕ) → n < 10 ^ 64 → 0 < length (decimal n)
decimal_some n small = (lead n small).0

pub decimal_first : (n : ℕ) → 0 < n → n < 10 ^ 64 → 48 < get_or (decimal n) 0 0
decimal_first n some small = (lead n small).1 some

-- appending digits to a positive number appends them to its text
decimal_after : (n : ℕ) (ds : List ℕ) → 0 < n → list_all is_ascii_digit ds ≡ true → digits_value_after 10 n ds < 10 ^ 64 → decimal (digits_value_after 10 n ds) ≡ decimal n ++ ds
decimal_after n [] some e small = sym (append-nil (decimal n))
decimal_after n (c ∷ cs) some e small =
    let parts = and_parts (is_ascii_digit c) (list_all is_ascii_digit cs) e in
    let m : ℕ = n * 10 + digit_value c in
    let front : m / 10 ≡ n = omega (arith, digit_small c parts.0) in
    let last : 48 + m % 10 ≡ c = omega (arith, digit_small c parts.0, digit_is c parts.0) in
    decimal_after m cs (omega arith) parts.1 small
    ∙ ap (λ ds. ds ++ cs) (decimal_step_wide m (omega arith) (omega (arith, after_grows m cs)) ∙ (λ i. decimal (front i) ++ (last i ∷ [])))
    ∙ append_assoc (decimal n) (c ∷ []) cs

-- `decimal` turns the value of a numeral back into the numeral, if the value has at most 64 digits, and the numeral has no
-- leading zero or is a single zero
pub decimal_of_digits : (ds : List ℕ) → list_all is_ascii_digit ds ≡ true → 0 < length ds → (get_or ds 0 0 ≡ 48 → length ds ≡ 1) → digits_value_after 10 0 ds < 10 ^ 64 → decimal (digits_value_after 10 0 ds) ≡ ds
decimal_of_digits [] e some lone small = absurd (omega arith)
decimal_of_digits (c ∷ []) e some lone small =
    let here = (and_parts (is_ascii_digit c) true e).0 in
    let is : 48 + (0 * 10 + digit_value c) ≡ c = omega (arith, digit_is c here) in
    decimal_digit (0 * 10 + digit_value c) (omega (arith, digit_small c here)) ∙ ap (λ d. d ∷ []) is
decimal_of_digits (c ∷ d ∷ cs) e some lone small =
    let parts = and_parts (is_ascii_digit c) (list_all is_ascii_digit (d ∷ cs)) e in
    let no : c ≡ 48 → ⊥ = λ z. omega (arith, lone z) in
    let is : 48 + (0 * 10 + digit_value c) ≡ c = omega (arith, digit_is c parts.0) in
    decimal_after (0 * 10 + digit_value c) (d ∷ cs) (omega (arith, no, digit_is c parts.0)) parts.1 small
    ∙ ap (λ ds. ds ++ (d ∷ cs)) (decimal_digit (0 * 10 + digit_value c) (omega (arith, digit_small c parts.0)) ∙ ap (λ d. d ∷ []) is)
