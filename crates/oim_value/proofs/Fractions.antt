-- Fractions of equal value have the same digits, apart from trailing zeros.
use Rattle.oim_value.proofs.Shared.{◌≡◌, ℕ, zero, suc, ◌+◌, ◌*◌, ◌^◌, ◌<◌, ◌≤◌, true, List, [], ◌∷◌, ◌++◌, length, refl, sym, ap, ◌∙◌, arith, pow-suc, pow-le-pow_right, mul-le-mul_left, same_from_place, digit_value, is_ascii_digit, list_all, digits_value_after, onto_digit, without_trailing, and_parts}
use Rattle.oim_value.proofs.Numerals.{after_append, after_lt, digit_is}

step_after : (v w n d p q : ℕ) → v ≡ (n * 10 + d) * p + w → q ≡ p * 10 → v ≡ n * q + (d * p + w)
step_after v w n d p q h e = rw (h, e) (grind arith)

first_alone : (v d p w : ℕ) → v ≡ (0 * 10 + d) * p + w → v ≡ d * p + w
first_alone v d p w h = omega (arith, h)

pub after_split : (n : ℕ) (ds : List ℕ) → digits_value_after 10 n ds ≡ n * 10 ^ length ds + digits_value_after 10 0 ds
after_split n [] = omega arith
after_split n (d ∷ ds) =
    let first : digits_value_after 10 0 (d ∷ ds) ≡ digit_value d * 10 ^ length ds + digits_value_after 10 0 ds = first_alone _ _ _ _ (after_split (0 * 10 + digit_value d) ds) in
    step_after _ _ _ _ _ _ (after_split (n * 10 + digit_value d) ds) (pow-suc 10 (length ds)) ∙ ap (λ v. n * 10 ^ length (d ∷ ds) + v) (sym first)

pub value_cons : (d : ℕ) (ds : List ℕ) → digits_value_after 10 0 (d ∷ ds) ≡ digit_value d * 10 ^ length ds + digits_value_after 10 0 ds
value_cons d ds = first_alone _ _ _ _ (after_split (0 * 10 + digit_value d) ds)

pub value_append : (xs ys : List ℕ) → digits_value_after 10 0 (xs ++ ys) ≡ digits_value_after 10 0 xs * 10 ^ length ys + digits_value_after 10 0 ys
value_append xs ys = after_append 0 xs ys ∙ after_split (digits_value_after 10 0 xs) ys

pub value_lt : (ds : List ℕ) → list_all is_ascii_digit ds ≡ true → digits_value_after 10 0 ds < 10 ^ length ds
value_lt ds e = omega (arith, after_lt 0 ds e)

step_fraction : (x y v w p q : ℕ) → (x * p + v) * (q * 10) ≡ (y * q + w) * (p * 10) → x * (p * q) + v * q ≡ y * (p * q) + w * p
step_fraction x y v w p q h = omega (arith, h)

pub below_product : (v p q : ℕ) → v < p → 0 < q → v * q < p * q
below_product v p q h some = let up : q * (v + 1) ≤ q * p = mul-le-mul_left q (omega arith) in omega arith

pub turned : (w p q : ℕ) → w < q → 0 < p → w * p < p * q
turned w p q h some = omega (arith, below_product w q p h some)

pub ten_some : (k : ℕ) → 0 < 10 ^ k
ten_some k = pow-le-pow_right {n = 10} (omega arith) {i = 0} {j = k} (omega arith)

no_first : (d p w : ℕ) → 0 < p → d * p + w ≡ 0 → (d ≡ 0) × (w ≡ 0)
no_first zero p w some h = (refl, omega arith)
no_first (suc d) p w some h = absurd (omega arith)

pub without_trailing-nothing : (ds : List ℕ) → list_all is_ascii_digit ds ≡ true → digits_value_after 10 0 ds ≡ 0 → without_trailing ds ≡ []
without_trailing-nothing [] e h = refl
without_trailing-nothing (d ∷ ds) e h =
    let parts = and_parts (is_ascii_digit d) (list_all is_ascii_digit ds) e in
    let none = no_first (digit_value d) (10 ^ length ds) (digits_value_after 10 0 ds) (ten_some (length ds)) (sym (value_cons d ds) ∙ h) in
    let zero_digit : d ≡ 48 = omega (arith, digit_is d parts.0, none.0) in
    rw (without_trailing-nothing ds parts.1 none.1, zero_digit)

same_digit : (c d : ℕ) → is_ascii_digit c ≡ true → is_ascii_digit d ≡ true → digit_value c ≡ digit_value d → c ≡ d
same_digit c d p q e = sym (digit_is c p) ∙ (ap (λ n. n + 48) e ∙ digit_is d q)

pub same_fraction : (xs ys : List ℕ) → list_all is_ascii_digit xs ≡ true → list_all is_ascii_digit ys ≡ true → digits_value_after 10 0 xs * 10 ^ length ys ≡ digits_value_after 10 0 ys * 10 ^ length xs → without_trailing xs ≡ without_trailing ys
same_fraction [] [] dx dy h = refl
same_fraction [] (y ∷ ys) dx dy h = sym (without_trailing-nothing (y ∷ ys) dy (omega (arith, h)))
same_fraction (x ∷ xs) [] dx dy h = without_trailing-nothing (x ∷ xs) dx (omega (arith, h))
same_fraction (x ∷ xs) (y ∷ ys) dx dy h =
    let px = and_parts (is_ascii_digit x) (list_all is_ascii_digit xs) dx in
    let py = and_parts (is_ascii_digit y) (list_all is_ascii_digit ys) dy in
    let vx : ℕ = digits_value_after 10 0 xs in
    let vy : ℕ = digits_value_after 10 0 ys in
    let p : ℕ = 10 ^ length xs in
    let q : ℕ = 10 ^ length ys in
    let values : (digit_value x * p + vx) * (q * 10) ≡ (digit_value y * q + vy) * (p * 10) = rw (value_cons x xs, value_cons y ys, pow-suc 10 (length xs), pow-suc 10 (length ys)) at h in
    let both = same_from_place (digit_value x) (vx * q) (digit_value y) (vy * p) (p * q) (below_product vx p q (value_lt xs px.1) (ten_some (length ys))) (turned vy p q (value_lt ys py.1) (ten_some (length xs))) (step_fraction (digit_value x) (digit_value y) vx vy p q values) in
    rw (same_digit x y px.0 py.0 both.0) (ap (onto_digit y) (same_fraction xs ys px.1 py.1 both.1))
