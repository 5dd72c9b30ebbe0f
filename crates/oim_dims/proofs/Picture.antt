-- The form of a date-time, and the digits of its parts.
use Rattle.oim_dims.proofs.Shared.{◌≡◌, ℕ, zero, suc, ◌+◌, ◌-◌, ◌<◌, true, false, List, [], ◌∷◌, length, get_or, take, drop, refl, sym, ◌∙◌, add-one, arith, ◌==◌, slice_range, and_parts, ◌&&◌, nat_tests, is_ascii_digit, list_all, zip, drop-cons, and-false}
use Rattle.oim_dims.specs.DateTime.{matches_picture, picture, has_picture}

digit_there : (sign c : ℕ) → matches_picture (sign, c) ≡ true → (sign == 48) ≡ true → is_ascii_digit c ≡ true
digit_there sign c h zero_sign = rw zero_sign at h

front_digits : (n : ℕ) (ps cs : List ℕ) → length ps ≡ length cs → list_all matches_picture (zip ps cs) ≡ true → list_all (λ sign. sign == 48) (take n ps) ≡ true → list_all is_ascii_digit (take n cs) ≡ true
front_digits (suc n) [] (c ∷ cs) same h zeros = absurd (omega arith)
front_digits (suc n) (p ∷ ps) [] same h zeros = absurd (omega arith)
front_digits (suc n) (p ∷ ps) (c ∷ cs) same h zeros =
    let fit = and_parts (matches_picture (p, c)) (list_all matches_picture (zip ps cs)) h in
    let zero_signs = and_parts (p == 48) (list_all (λ sign. sign == 48) (take n ps)) zeros in
    rw (digit_there p c fit.0 zero_signs.0) (front_digits n ps cs (omega arith) fit.1 zero_signs.1)
front_digits n ps cs same h zeros = refl

-- the n characters after the first i are digits if the form has zeros there
part_digits : (i n : ℕ) (ps cs : List ℕ) → length ps ≡ length cs → list_all matches_picture (zip ps cs) ≡ true → list_all (λ sign. sign == 48) (take n (drop i ps)) ≡ true → list_all is_ascii_digit (take n (drop i cs)) ≡ true
part_digits zero n ps cs same h zeros = front_digits n ps cs same h zeros
part_digits (suc i) zero [] [] same h zeros = refl
part_digits (suc i) (suc n) [] [] same h zeros = refl
part_digits (suc i) n [] (c ∷ cs) same h zeros = absurd (omega arith)
part_digits (suc i) n (p ∷ ps) [] same h zeros = absurd (omega arith)
part_digits (suc i) n (p ∷ ps) (c ∷ cs) same h zeros = part_digits i n ps cs (omega arith) (and_parts (matches_picture (p, c)) (list_all matches_picture (zip ps cs)) h).1 zeros

pub pictured_length : (t : List ℕ) → has_picture t ≡ true → length t ≡ 19
unfolding has_picture
pictured_length t h = let e = and_parts (length t == 19) (list_all matches_picture (zip picture t)) h in let f : (length t == 19) ≡ true = e.0 in grind (arith, nat_tests)

pub pictured_digits : (t : List ℕ) (i j : ℕ) → has_picture t ≡ true → list_all (λ sign. sign == 48) (slice_range picture i j) ≡ true → list_all is_ascii_digit (slice_range t i j) ≡ true
unfolding has_picture
pictured_digits t i j h zeros =
    let e = and_parts (length t == 19) (list_all matches_picture (zip picture t)) h in
    let same : 19 ≡ length t = omega (arith, pictured_length t h) in
    part_digits i (j - i) picture t same e.1 zeros

-- the form and the text match from index i on exactly if they match at i and after it
picture_at : (i : ℕ) (ps cs : List ℕ) → i < length ps → i < length cs → list_all matches_picture (zip (drop i ps) (drop i cs)) ≡ (matches_picture (get_or ps i 0, get_or cs i 0) && list_all matches_picture (zip (drop (i + 1) ps) (drop (i + 1) cs)))
picture_at i ps cs h k = rw (drop-cons ps i 0 h, drop-cons cs i 0 k, add-one) refl

pub pictured_so_far : (i : ℕ) (t : List ℕ) → i < 19 → i < length t → matches_picture (get_or picture i 0, get_or t i 0) ≡ true → list_all matches_picture (zip (drop i picture) (drop i t)) ≡ list_all matches_picture (zip picture t) → list_all matches_picture (zip (drop (i + 1) picture) (drop (i + 1) t)) ≡ list_all matches_picture (zip picture t)
pictured_so_far i t h k fit so_far = rw fit at (sym (picture_at i picture t h k)) ∙ so_far

pub not_pictured : (i : ℕ) (t : List ℕ) → i < 19 → i < length t → matches_picture (get_or picture i 0, get_or t i 0) ≡ false → list_all matches_picture (zip (drop i picture) (drop i t)) ≡ list_all matches_picture (zip picture t) → has_picture t ≡ false
unfolding has_picture
not_pictured i t h k miss so_far =
    let none : list_all matches_picture (zip picture t) ≡ false = sym so_far ∙ rw miss at (picture_at i picture t h k) in
    rw none (and-false (length t == 19))
