-- Short numbers and short texts.
use Rattle.oim_value.proofs.Shared.{◌≡◌, ℕ, zero, suc, ◌+◌, ◌*◌, ◌-◌, ◌^◌, ◌/◌, ◌%◌, ◌<◌, ◌≤◌, true, cond, eqb, false, List, [], ◌∷◌, ◌++◌, length, refl, sym, ap, ◌∙◌, arith, ℤ, pos, negsuc, ◌*ℤ◌, unsigned_abs, None, nat_tests, unsigned_abs-mul, same_from_place, div-add-mod', mod_below, div_below, pow-add, length-decimal-le_wide, decimal_digit, is_ascii_digit, list_all, decimal, digits_value_after, MOST_DIGITS, UNIT_PLACES, without_leading, without_trailing, onto_digit, signed, is_negative, is_number, is_short, number_refusal, counted, integer_part, fraction_part, IsShort, DenotesOne, ShortIsKept, with_leading_zeros, plain, integer_digits, fraction_digits, PlainReadsBack, PlainTellsApart}
use Rattle.oim_value.proofs.Numerals.{parts_of_numeral, digits_without_leading, digits_without_trailing, few_digits}
use Rattle.oim_value.proofs.Fractions.{same_fraction, ten_some, below_product}
use Rattle.oim_value.proofs.PlainLemmas.{decimal_digits, decimal_value, zeros_digits, zeros_value, length-with_zeros}
use Rattle.oim_value.proofs.PlainLaws.{plain_is_plain, fraction_digits_are, fraction_length, fraction_value, short_is_writable, parts_of_plain, without_trailing-without_trailing}
use Rattle.oim_value.proofs.Units.{denotes_from, short_signed, ten_to}
use Rattle.oim_value.proofs.Denoted.{product_positive, no_negative}

-- ---- a text denotes at most one number

cancel : (a b k : ℕ) → 0 < k → a * k ≡ b * k → a ≡ b
cancel a b k some e = (same_from_place a 0 b 0 k some some (omega (arith, e))).0

same_size : (m n : ℤ) (k : ℕ) → 0 < k → m *ℤ pos k ≡ n *ℤ pos k → unsigned_abs m ≡ unsigned_abs n
same_size m n k some e = cancel (unsigned_abs m) (unsigned_abs n) k some (sym (unsigned_abs-mul m (pos k)) ∙ (ap unsigned_abs e ∙ unsigned_abs-mul n (pos k)))

same_factor : (m n : ℤ) (k : ℕ) → 0 < k → m *ℤ pos k ≡ n *ℤ pos k → m ≡ n
same_factor (pos a) (pos b) k some e = ap pos (same_size (pos a) (pos b) k some e)
same_factor (pos a) (negsuc b) k some e = absurd (no_negative (suc b * k) (a * k) (product_positive b k some) (sym e))
same_factor (negsuc a) (pos b) k some e = absurd (no_negative (suc a * k) (b * k) (product_positive a k some) e)
same_factor (negsuc a) (negsuc b) k some e = let s : suc a ≡ suc b = same_size (negsuc a) (negsuc b) k some e in let t : a ≡ b = omega arith in ap negsuc t

pub denotes_one : DenotesOne
denotes_one t m n p q = same_factor m n (10 ^ length (fraction_part t)) (ten_some (length (fraction_part t))) (p.value ∙ sym q.value)

-- ---- a short text denotes a short number

short_counts : (t : List ℕ) → is_short t ≡ true → counted t ≤ MOST_DIGITS
short_counts t e = grind (arith, nat_tests)

counts_short : (t : List ℕ) → counted t ≤ MOST_DIGITS → is_short t ≡ true
counts_short t h = grind (arith, nat_tests)

pub short_is_kept : ShortIsKept
short_is_kept t m d short =
    let i : List ℕ = integer_part t in
    let f : List ℕ = fraction_part t in
    let parts = parts_of_numeral i f d.form in
    let n : ℕ = digits_value_after 10 0 (without_leading i ++ without_trailing f) in
    let p : ℕ = length (without_trailing f) in
    let few : counted t ≤ MOST_DIGITS = short_counts t short in
    let z : ℤ = signed (is_negative t) (n * 10 ^ (UNIT_PLACES - p)) in
    let same : m ≡ z = denotes_one t m z d (denotes_from t i f n p z refl refl d.form refl refl (omega arith) refl) in
    rw same (short_signed (is_negative t) n p (few_digits (without_leading i) (without_trailing f) (digits_without_leading i parts.0) (digits_without_trailing f parts.1) few) (omega arith))

-- ---- the plain text of a short number is short

length-onto_digit : (d : ℕ) (ds : List ℕ) → length (onto_digit d ds) ≤ suc (length ds)
length-onto_digit d [] = elim (eqb d 48) as (λ b. length (cond b [] (d ∷ [])) ≤ 1) [ true ↦ omega arith | false ↦ omega arith ]
length-onto_digit d (c ∷ cs) = omega arith

length-without_trailing : (ds : List ℕ) → length (without_trailing ds) ≤ length ds
length-without_trailing [] = omega arith
length-without_trailing (d ∷ ds) = omega (arith, length-onto_digit d (without_trailing ds), length-without_trailing ds)

length-without_leading : (ds : List ℕ) → length (without_leading ds) ≤ length ds
length-without_leading [] = omega arith
length-without_leading (d ∷ ds) = elim (eqb d 48) as (λ b. length (cond b (without_leading ds) (d ∷ ds)) ≤ suc (length ds)) [ true ↦ omega (arith, length-without_leading ds) | false ↦ omega arith ]

counted_integer : (k q : ℕ) → q < 10 ^ k → k ≤ MOST_DIGITS → length (without_leading (decimal q)) ≤ k
counted_integer k zero small within = rw (decimal_digit 0 (omega arith)) (omega arith)
counted_integer zero (suc q) small within = absurd (omega arith)
counted_integer (suc k) (suc q) small within =
    let most : 10 ^ suc k ≤ 10 ^ MOST_DIGITS = ten_to (suc k) MOST_DIGITS within in
    let some : length (decimal (suc q)) ≤ suc k = length-decimal-le_wide (suc k) (suc q) (omega arith) small (omega arith) in
    omega (arith, length-without_leading (decimal (suc q)))

-- padding a number below 10^(p + 1) with leading zeros to p + 1 digits does not change its value
zeros_before : (p v : ℕ) → v < 10 ^ suc p → suc p ≤ MOST_DIGITS → (list_all is_ascii_digit (with_leading_zeros (suc p) (decimal v)) ≡ true) × (length (with_leading_zeros (suc p) (decimal v)) ≡ suc p) × (digits_value_after 10 0 (with_leading_zeros (suc p) (decimal v)) ≡ v)
zeros_before p v small within =
    let most : 10 ^ suc p ≤ 10 ^ MOST_DIGITS = ten_to (suc p) MOST_DIGITS within in
    let below : v < 10 ^ 64 = omega arith in (
      zeros_digits (suc p - length (decimal v)) (decimal v) (decimal_digits v below),
      length-with_zeros (suc p) (decimal v) (length-decimal-le_wide (suc p) v (omega arith) small below),
      zeros_value (suc p - length (decimal v)) (decimal v) ∙ decimal_value v below,
    )

-- a fraction of p digits has at most p significant digits
counted_fraction : (p v r : ℕ) → v < 10 ^ p → p ≤ MOST_DIGITS → r < 10 ^ UNIT_PLACES → r * 10 ^ p ≡ v * 10 ^ UNIT_PLACES → length (without_trailing (with_leading_zeros UNIT_PLACES (decimal r))) ≤ p
counted_fraction zero v r small within below e =
    let none : r ≡ 0 = omega (arith, e) in
    let nothing : without_trailing (with_leading_zeros UNIT_PLACES (decimal r)) ≡ [] = same_fraction (with_leading_zeros UNIT_PLACES (decimal r)) [] (fraction_digits_are r below) refl (rw (fraction_value r below) (omega (arith, none))) in
    rw nothing (omega arith)
counted_fraction (suc p) v r small within below e =
    let d = zeros_before p v small within in
    let same : without_trailing (with_leading_zeros UNIT_PLACES (decimal r)) ≡ without_trailing (with_leading_zeros (suc p) (decimal v)) = same_fraction (with_leading_zeros UNIT_PLACES (decimal r)) (with_leading_zeros (suc p) (decimal v)) (fraction_digits_are r below) d.0 (rw (fraction_value r below, d.1, d.2, fraction_length r below) e) in
    rw same (omega (arith, length-without_trailing (with_leading_zeros (suc p) (decimal v)), d.1))

scaled_parts : (s n q v p z d : ℕ) → s ≡ n * z → q * p + v ≡ n → d ≡ p * z → s ≡ q * d + v * z
scaled_parts s n q v p z d e f g = rw (e, ← f, g) (omega arith)

moved : (r v p z d : ℕ) → r ≡ v * z → d ≡ p * z → r * p ≡ v * d
moved r v p z d e g = rw (e, g) (omega arith)

short_from : (t i f : List ℕ) → integer_part t ≡ i → fraction_part t ≡ f → length (without_leading i) + length (without_trailing f) ≤ MOST_DIGITS → is_short t ≡ true
short_from t i f ei ef few = counts_short t (rw (ei, ef) few)

plain_is_short : (m : ℤ) → IsShort m → is_short (plain m) ≡ true
plain_is_short m h =
    let s : ℕ = unsigned_abs m in
    let n : ℕ = h.number in
    let p : ℕ = h.places in
    let z : ℕ = UNIT_PLACES - p in
    let unit : 10 ^ UNIT_PLACES ≡ 10 ^ p * 10 ^ z = ap (λ k. 10 ^ k) (let whole : UNIT_PLACES ≡ p + z = omega (arith, h.within) in whole) ∙ pow-add 10 p z in
    let v : ℕ = n % 10 ^ p in
    let small_v : v < 10 ^ p = mod_below n (10 ^ p) (ten_some p) in
    let small_r : s % 10 ^ UNIT_PLACES < 10 ^ UNIT_PLACES = mod_below s (10 ^ UNIT_PLACES) (omega arith) in
    let apart : s ≡ (n / 10 ^ p) * 10 ^ UNIT_PLACES + v * 10 ^ z = scaled_parts s n (n / 10 ^ p) v (10 ^ p) (10 ^ z) (10 ^ UNIT_PLACES) h.is (div-add-mod' n (10 ^ p)) unit in
    let within : v * 10 ^ z < 10 ^ UNIT_PLACES = rw unit (below_product v (10 ^ p) (10 ^ z) small_v (ten_some z)) in
    let same = same_from_place (s / 10 ^ UNIT_PLACES) (s % 10 ^ UNIT_PLACES) (n / 10 ^ p) (v * 10 ^ z) (10 ^ UNIT_PLACES) small_r within (div-add-mod' s (10 ^ UNIT_PLACES) ∙ apart) in
    let front : ℕ = MOST_DIGITS - p in
    let all : 10 ^ MOST_DIGITS ≡ 10 ^ p * 10 ^ front = ap (λ k. 10 ^ k) (let whole : MOST_DIGITS ≡ p + front = omega (arith, h.within) in whole) ∙ pow-add 10 p front in
    let small_q : n / 10 ^ p < 10 ^ front = div_below n (10 ^ p) (10 ^ front) (ten_some p) (omega (arith, all, h.few)) in
    let integer : length (without_leading (integer_digits s)) ≤ front = counted_integer front (s / 10 ^ UNIT_PLACES) (rw same.0 small_q) (omega arith) in
    let fraction : length (fraction_digits s) ≤ p = counted_fraction p v (s % 10 ^ UNIT_PLACES) small_v h.within small_r (moved (s % 10 ^ UNIT_PLACES) v (10 ^ p) (10 ^ z) (10 ^ UNIT_PLACES) same.1 unit) in
    let parts = parts_of_plain m (short_is_writable m h) in
    short_from (plain m) (integer_digits s) (fraction_digits s) parts.integer parts.fraction
    (rw (without_trailing-without_trailing (with_leading_zeros UNIT_PLACES (decimal (s % 10 ^ UNIT_PLACES)))) (omega (arith, h.within)))

-- ---- a short number is read back

accepted : (t : List ℕ) → is_number t ≡ true → is_short t ≡ true → number_refusal t ≡ None
accepted t form short = rw (form, short)

pub plain_reads_back : PlainReadsBack
plain_reads_back m h =
    let text = plain_is_plain m (short_is_writable m h) in
    record { denotes = text.denotes; accepted = accepted (plain m) text.denotes.form (plain_is_short m h) }

pub plain_tells_apart : PlainTellsApart
plain_tells_apart m n hm hn e = denotes_one (plain m) m n (plain_is_plain m hm).denotes (rw (← e) at ((plain_is_plain n hn).denotes))
