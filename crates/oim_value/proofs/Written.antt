-- If a number is not whole, its text with all decimal places becomes the plain text when trailing zeros are cut.
use Rattle.oim_value.proofs.Shared.{◌≡◌, ℕ, zero, suc, ◌*◌, ◌/◌, ◌%◌, ◌^◌, ◌<◌, List, [], ◌∷◌, ◌++◌, length, length-append, append_assoc, refl, sym, ap, ◌∙◌, arith, IsAscii-cons, ℤ, unsigned_abs, append-nil, mod_below, IsAscii-append, IsAscii-decimal_wide, decimal, IsAscii, digits_value_after, UNIT_PLACES, onto_digit, without_trailing, with_leading_zeros, plain, sign_text, with_point, integer_digits, IsWritable}
use Rattle.oim_value.proofs.Fractions.{without_trailing-nothing}
use Rattle.oim_value.proofs.PlainLemmas.{IsAscii-with_zeros}
use Rattle.oim_value.proofs.PlainLaws.{fraction_digits_are, fraction_value, fraction_worth, whole_small, IsAscii-sign_text}
use Rattle.oim_value.proofs.Shapes.{with_point_some}

onto_some : (d : ℕ) (ds : List ℕ) → 0 < length ds → onto_digit d ds ≡ d ∷ ds
onto_some d [] some = absurd (omega arith)
onto_some d (e ∷ ds) some = refl

without_trailing-append : (xs ys : List ℕ) → 0 < length (without_trailing ys) → without_trailing (xs ++ ys) ≡ xs ++ without_trailing ys
without_trailing-append [] ys some = refl
without_trailing-append (x ∷ xs) ys some =
    ap (onto_digit x) (without_trailing-append xs ys some)
    ∙ onto_some x (xs ++ without_trailing ys) (omega (arith, length-append xs (without_trailing ys)))

no_digits : (r : ℕ) → r ≡ 0 → without_trailing (with_leading_zeros UNIT_PLACES (decimal r)) ≡ []
no_digits r e =
    let small : r < 10 ^ UNIT_PLACES = omega arith in
    without_trailing-nothing (with_leading_zeros UNIT_PLACES (decimal r)) (fraction_digits_are r small) (fraction_value r small ∙ e)

worthless : (ds : List ℕ) (r : ℕ) → length ds ≡ 0 → digits_value_after 10 0 ds * 10 ^ UNIT_PLACES ≡ r * 10 ^ length ds → r ≡ 0
worthless [] r none e = omega (arith, e)
worthless (d ∷ ds) r none e = absurd (omega arith)

not_none : (n r : ℕ) → (n ≡ 0 → r ≡ 0) → 0 < r → 0 < n
not_none zero r h some = absurd (omega (arith, h refl))
not_none (suc n) r h some = omega arith

some_digits : (r : ℕ) → 0 < r → r < 10 ^ UNIT_PLACES → 0 < length (without_trailing (with_leading_zeros UNIT_PLACES (decimal r)))
some_digits r some small =
    let ds : List ℕ = without_trailing (with_leading_zeros UNIT_PLACES (decimal r)) in
    not_none (length ds) r (λ none. worthless ds r none (fraction_worth r small)) some

-- the text of a number with all UNIT_PLACES decimal places
abbrev pub all_places : ℤ → List ℕ
all_places m = sign_text m ++ (integer_digits (unsigned_abs m) ++ 46 ∷ with_leading_zeros UNIT_PLACES (decimal (unsigned_abs m % 10 ^ UNIT_PLACES)))

pub plain_whole : (m : ℤ) → unsigned_abs m % 10 ^ UNIT_PLACES ≡ 0 → sign_text m ++ integer_digits (unsigned_abs m) ≡ plain m
plain_whole m none =
    ap (λ ds. sign_text m ++ ds) (sym (append-nil (integer_digits (unsigned_abs m))) ∙ ap (λ fs. integer_digits (unsigned_abs m) ++ with_point fs) (sym (no_digits (unsigned_abs m % 10 ^ UNIT_PLACES) none)))

pub plain_cut : (m : ℤ) → 0 < unsigned_abs m % 10 ^ UNIT_PLACES → without_trailing (all_places m) ≡ plain m
plain_cut m some =
    let r : ℕ = unsigned_abs m % 10 ^ UNIT_PLACES in
    let ds : List ℕ = with_leading_zeros UNIT_PLACES (decimal r) in
    let kept : 0 < length (without_trailing ds) = some_digits r some (mod_below (unsigned_abs m) (10 ^ UNIT_PLACES) (omega arith)) in
    let front : List ℕ = sign_text m ++ integer_digits (unsigned_abs m) in
    let point : without_trailing (46 ∷ ds) ≡ 46 ∷ without_trailing ds = without_trailing-append (46 ∷ []) ds kept in
    let more : 0 < length (without_trailing (46 ∷ ds)) = rw point (omega arith) in
    ap without_trailing (sym (append_assoc (sign_text m) (integer_digits (unsigned_abs m)) (46 ∷ ds)))
    ∙ without_trailing-append front (46 ∷ ds) more
    ∙ ap (λ t. front ++ t) (point ∙ sym (with_point_some (without_trailing ds) kept))
    ∙ append_assoc (sign_text m) (integer_digits (unsigned_abs m)) (with_point (without_trailing ds))

pub all_places_ascii : (m : ℤ) → IsWritable m → IsAscii (all_places m)
all_places_ascii m writable =
    let small : unsigned_abs m % 10 ^ UNIT_PLACES < 10 ^ UNIT_PLACES = mod_below (unsigned_abs m) (10 ^ UNIT_PLACES) (omega arith) in
    let places : List ℕ = with_leading_zeros UNIT_PLACES (decimal (unsigned_abs m % 10 ^ UNIT_PLACES)) in
    IsAscii-append (sign_text m) (integer_digits (unsigned_abs m) ++ 46 ∷ places) (IsAscii-sign_text m)
    (IsAscii-append (integer_digits (unsigned_abs m)) (46 ∷ places) (IsAscii-decimal_wide (unsigned_abs m / 10 ^ UNIT_PLACES) (whole_small (unsigned_abs m) writable))
    (IsAscii-cons 46 places (omega arith) (IsAscii-with_zeros UNIT_PLACES (unsigned_abs m % 10 ^ UNIT_PLACES) (omega arith))))
