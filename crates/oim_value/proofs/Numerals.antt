-- The numbers that digits denote.
use Rattle.oim_value.proofs.Shared.{◌≡◌, ℕ, ◌+◌, ◌*◌, ◌^◌, ◌<◌, ◌≤◌, true, false, cond, eqb, List, [], ◌∷◌, ◌++◌, length, get_or, take, drop, length-append, refl, sym, ap, ◌∙◌, arith, suc, subst, nat_lt, ◌&&◌, and_parts, eqb-true, nat_tests, pow-add, pow-suc, pow-le-pow_right, mul-le-mul_left, take_more, list_all-append, digit_value, is_ascii_digit, list_all, digits_value_after, MOST_DIGITS, UNIT_PLACES, is_numeral, without_leading, without_trailing, onto_digit, ◌-◌}
use Rattle.std.proofs.Math.Seq.{drop-cons}

pub after_grows : (n : ℕ) (ds : List ℕ) → n ≤ digits_value_after 10 n ds
after_grows n [] = omega arith
after_grows n (d ∷ ds) = omega (arith, after_grows (n * 10 + digit_value d) ds)

pub after_append : (n : ℕ) (xs ys : List ℕ) → digits_value_after 10 n (xs ++ ys) ≡ digits_value_after 10 (digits_value_after 10 n xs) ys
after_append n [] ys = refl
after_append n (x ∷ xs) ys = after_append (n * 10 + digit_value x) xs ys

pub digit_small : (c : ℕ) → is_ascii_digit c ≡ true → digit_value c < 10
digit_small c e = grind (arith, nat_tests)

step_lt : (v n d p q : ℕ) → d < 10 → v < (n * 10 + d + 1) * p → q ≡ p * 10 → v < (n + 1) * q
step_lt v n d p q small rest is = let more : p * (n * 10 + d + 1) ≤ p * (n * 10 + 10) = mul-le-mul_left p (omega arith) in rw is (grind (arith, rest, more))

step_zero : (v n d p q : ℕ) → v * 1 ≡ (n * 10 + d) * p → d ≡ 0 → q ≡ p * 10 → v * 1 ≡ n * q
step_zero v n d p q h zero_digit is = rw (is, h, zero_digit) (grind arith)

step_digit : (v n p q : ℕ) → v * 1 ≡ n * p → q ≡ p * 10 → v * 10 ≡ n * q
step_digit v n p q h is = rw is (grind (arith, h))

step_more : (v n p q a b : ℕ) → v * a ≡ n * p → q ≡ p * 10 → b ≡ a * 10 → v * b ≡ n * q
step_more v n p q a b h is is' = rw (is, is') (grind (arith, h))

regroup : (v w a p k : ℕ) → v * a ≡ w * p → k * a ≡ 10 ^ UNIT_PLACES → (w * k) * p ≡ 10 ^ UNIT_PLACES * v
regroup v w a p k h places = rw (← places) (grind (arith, ap (λ x. k * x) h))

pub after_lt : (n : ℕ) (ds : List ℕ) → list_all is_ascii_digit ds ≡ true → digits_value_after 10 n ds < (n + 1) * 10 ^ length ds
after_lt n [] e = omega arith
after_lt n (d ∷ ds) e =
    let h = and_parts (is_ascii_digit d) (list_all is_ascii_digit ds) e in
    let small : digit_value d < 10 = digit_small d h.0 in
    let rest : digits_value_after 10 (n * 10 + digit_value d) ds < (n * 10 + digit_value d + 1) * 10 ^ length ds = after_lt (n * 10 + digit_value d) ds h.1 in
    step_lt _ n _ _ _ small rest (pow-suc 10 (length ds))

pub digit_is : (c : ℕ) → is_ascii_digit c ≡ true → digit_value c + 48 ≡ c
digit_is c e = grind (arith, nat_tests)

pub digit_here : (i : ℕ) (s : List ℕ) → i < length s → list_all is_ascii_digit (drop i s) ≡ true → digit_value (get_or s i 0) + 48 ≡ get_or s i 0
digit_here i s h e = digit_is (get_or s i 0) (and_parts _ _ (rw (drop-cons s i 0 h) at e)).0

-- one more digit does not make the number larger than all digits make it
pub next_le : (n i m : ℕ) (s : List ℕ) → i < length s → digits_value_after 10 n (drop i s) ≡ m → n * 10 + digit_value (get_or s i 0) ≤ m
next_le n i m s h e = subst (λ k. n * 10 + digit_value (get_or s i 0) ≤ k) (sym (ap (digits_value_after 10 n) (drop-cons s i 0 h)) ∙ e) (after_grows (n * 10 + digit_value (get_or s i 0)) (drop (suc i) s))

pub digits_without_leading : (ds : List ℕ) → list_all is_ascii_digit ds ≡ true → list_all is_ascii_digit (without_leading ds) ≡ true
digits_without_leading [] e = refl
digits_without_leading (d ∷ ds) e =
    elim (eqb d 48) as (λ b. list_all is_ascii_digit (cond b (without_leading ds) (d ∷ ds)) ≡ true) [
      | true ↦ digits_without_leading ds (and_parts _ _ e).1
      | false ↦ e
    ]

digits_onto : (c : ℕ) (ds : List ℕ) → is_ascii_digit c ≡ true → list_all is_ascii_digit ds ≡ true → list_all is_ascii_digit (onto_digit c ds) ≡ true
digits_onto c [] e f = elim (eqb c 48) as (λ b. list_all is_ascii_digit (cond b [] (c ∷ [])) ≡ true) [ true ↦ refl | false ↦ ap (λ b. b && true) e ]
digits_onto c (d ∷ ds) e f = ap (λ b. b && list_all is_ascii_digit (d ∷ ds)) e ∙ f

pub digits_without_trailing : (ds : List ℕ) → list_all is_ascii_digit ds ≡ true → list_all is_ascii_digit (without_trailing ds) ≡ true
digits_without_trailing [] e = refl
digits_without_trailing (d ∷ ds) e = digits_onto d (without_trailing ds) (and_parts _ _ e).0 (digits_without_trailing ds (and_parts _ _ e).1)

pub value_without_leading : (ds : List ℕ) → digits_value_after 10 0 (without_leading ds) ≡ digits_value_after 10 0 ds
value_without_leading [] = refl
value_without_leading (d ∷ ds) =
    elim (eqb d 48) as (λ b. eqb d 48 ≡ b → digits_value_after 10 0 (cond b (without_leading ds) (d ∷ ds)) ≡ digits_value_after 10 0 (d ∷ ds)) [
      | true ↦ λ e. value_without_leading ds ∙ ap (λ c. digits_value_after 10 (0 * 10 + digit_value c) ds) (sym (eqb-true d 48 e))
      | false ↦ λ e. refl
    ] refl

-- one step of `value_without_trailing`: dropping a fraction's trailing zeros does not change the value
value_onto : (n c : ℕ) (cs ws : List ℕ) → digits_value_after 10 (n * 10 + digit_value c) cs * 10 ^ length ws ≡ digits_value_after 10 (n * 10 + digit_value c) ws * 10 ^ length cs → digits_value_after 10 n (c ∷ cs) * 10 ^ length (onto_digit c ws) ≡ digits_value_after 10 n (onto_digit c ws) * 10 ^ length (c ∷ cs)
value_onto n c cs [] h =
    elim (eqb c 48) as (λ b. eqb c 48 ≡ b → digits_value_after 10 n (c ∷ cs) * 10 ^ length (cond b [] (c ∷ [])) ≡ digits_value_after 10 n (cond b [] (c ∷ [])) * 10 ^ length (c ∷ cs)) [
      | true ↦ λ e. step_zero _ n _ _ _ h (ap digit_value (eqb-true c 48 e)) (pow-suc 10 (length cs))
      | false ↦ λ e. step_digit _ _ _ _ h (pow-suc 10 (length cs))
    ] refl
value_onto n c cs (w ∷ ws) h = step_more _ _ _ _ _ _ h (pow-suc 10 (length cs)) (pow-suc 10 (length (w ∷ ws)))

pub value_without_trailing : (n : ℕ) (ds : List ℕ) → digits_value_after 10 n ds * 10 ^ length (without_trailing ds) ≡ digits_value_after 10 n (without_trailing ds) * 10 ^ length ds
value_without_trailing n [] = refl
value_without_trailing n (d ∷ ds) = value_onto n d ds (without_trailing ds) (value_without_trailing (n * 10 + digit_value d) ds)

pub without_trailing_zero : (ds : List ℕ) → without_trailing (ds ++ 48 ∷ []) ≡ without_trailing ds
without_trailing_zero [] = refl
without_trailing_zero (d ∷ ds) = ap (onto_digit d) (without_trailing_zero ds)

pub without_trailing_other : (ds : List ℕ) (c : ℕ) → eqb c 48 ≡ false → without_trailing (ds ++ c ∷ []) ≡ ds ++ c ∷ []
without_trailing_other [] c e = ap (λ b. cond b [] (c ∷ [])) e
without_trailing_other (d ∷ []) c e = ap (onto_digit d) (without_trailing_other [] c e)
without_trailing_other (d ∷ x ∷ ds) c e = ap (onto_digit d) (without_trailing_other (x ∷ ds) c e)

pub trailing_zero_at : (ds : List ℕ) (i : ℕ) → i < length ds → get_or ds i 0 ≡ 48 → without_trailing (take (i + 1) ds) ≡ without_trailing (take i ds)
trailing_zero_at ds i h e = ap without_trailing (take_more ds i 0 h ∙ ap (λ c. take i ds ++ c ∷ []) e) ∙ without_trailing_zero (take i ds)

pub no_trailing_zero_at : (ds : List ℕ) (i : ℕ) → i < length ds → eqb (get_or ds i 0) 48 ≡ false → without_trailing (take (i + 1) ds) ≡ take (i + 1) ds
no_trailing_zero_at ds i h e = ap without_trailing (take_more ds i 0 h) ∙ (without_trailing_other (take i ds) (get_or ds i 0) e ∙ sym (take_more ds i 0 h))

pub parts_of_numeral : (xs ys : List ℕ) → is_numeral (xs ++ ys) ≡ true → (list_all is_ascii_digit xs ≡ true) × (list_all is_ascii_digit ys ≡ true)
parts_of_numeral xs ys e = and_parts _ _ (rw (list_all-append is_ascii_digit xs ys) at (and_parts (nat_lt 0 (length (xs ++ ys))) (list_all is_ascii_digit (xs ++ ys)) e).1)

pub few_digits : (xs ys : List ℕ) → list_all is_ascii_digit xs ≡ true → list_all is_ascii_digit ys ≡ true → length xs + length ys ≤ MOST_DIGITS → digits_value_after 10 0 (xs ++ ys) < 10 ^ MOST_DIGITS
few_digits xs ys dx dy few =
    let p : 10 ^ length (xs ++ ys) ≤ 10 ^ MOST_DIGITS = pow-le-pow_right {n = 10} (omega arith) {i = length (xs ++ ys)} {j = MOST_DIGITS} (omega (arith, length-append xs ys)) in
    omega (arith, after_lt 0 (xs ++ ys) (list_all-append is_ascii_digit xs ys ∙ (ap (λ b. b && list_all is_ascii_digit ys) dx ∙ dy)), p)

-- all digits and the significant digits denote the same number of units
pub whole_value : (i f : List ℕ) (k : ℕ) → k + length (without_trailing f) ≡ UNIT_PLACES → (digits_value_after 10 0 (without_leading i ++ without_trailing f) * 10 ^ k) * 10 ^ length f ≡ 10 ^ UNIT_PLACES * digits_value_after 10 0 (i ++ f)
whole_value i f k e =
    let n : ℕ = digits_value_after 10 0 i in
    let same : digits_value_after 10 0 (without_leading i ++ without_trailing f) ≡ digits_value_after 10 n (without_trailing f) = after_append 0 (without_leading i) (without_trailing f) ∙ ap (λ m. digits_value_after 10 m (without_trailing f)) (value_without_leading i) in
    let all : digits_value_after 10 0 (i ++ f) ≡ digits_value_after 10 n f = after_append 0 i f in
    let places : 10 ^ k * 10 ^ length (without_trailing f) ≡ 10 ^ UNIT_PLACES = sym (pow-add 10 k (length (without_trailing f))) ∙ ap (λ m. 10 ^ m) e in
    rw (same, all) (regroup _ _ _ _ _ (value_without_trailing n f) places)

-- ---- the digits before an index, if those behind are zeros

pub back : (ds : List ℕ) (e : ℕ) → 0 < e → e - 1 < length ds → get_or ds (e - 1) 0 ≡ 48 → without_trailing (take (e - 1) ds) ≡ without_trailing (take e ds)
back ds e h lt z = subst (λ k. without_trailing (take (e - 1) ds) ≡ without_trailing (take k ds)) {x = e - 1 + 1} (omega arith) (sym (trailing_zero_at ds (e - 1) lt z))

pub stays : (ds : List ℕ) (e : ℕ) → 0 < e → e - 1 < length ds → eqb (get_or ds (e - 1) 0) 48 ≡ false → without_trailing (take e ds) ≡ take e ds
stays ds e h lt z = subst (λ k. without_trailing (take k ds) ≡ take k ds) {x = e - 1 + 1} (omega arith) (no_trailing_zero_at ds (e - 1) lt z)

pub none_left : (ds : List ℕ) (e : ℕ) → e ≡ 0 → without_trailing (take e ds) ≡ without_trailing ds → take e ds ≡ without_trailing ds
none_left ds e none same = rw none (rw none at same)
