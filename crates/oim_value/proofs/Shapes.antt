-- A text split into its sign, its integer digits, and its fraction digits after a point.
use Rattle.oim_value.proofs.Shared.{◌≡◌, ◌≢◌, ℕ, ◌+◌, ◌<◌, Bool, true, false, cond, eqb, List, [], ◌∷◌, ◌++◌, length, get_or, take, drop, refl, sym, ap, ◌∙◌, arith, inl, inr, ℤ, pos, negsuc, ◌||◌, false≢true, cases_lt, and_parts, or_right, nat_tests, append-nil, take_at, drop_at, take_all, drop_all, drop-drop, split_at_first, passes_at_first, is_ascii_digit, list_all, before_first, after_first, position_or_len, is_negative, is_point, unsigned, has_point, sign_text, with_point}

digit_no_plus : (d : ℕ) → is_ascii_digit d ≡ true → eqb d 43 ≡ false
digit_no_plus d e = grind (arith, nat_tests)

digit_no_minus : (d : ℕ) → is_ascii_digit d ≡ true → eqb d 45 ≡ false
digit_no_minus d e = grind (arith, nat_tests)

digit_no_point : (d : ℕ) → is_ascii_digit d ≡ true → eqb d 46 ≡ false
digit_no_point d e = grind (arith, nat_tests)

-- ---- from the parts to the text

abbrev pub below_zero : ℤ → Bool
below_zero (pos n) = false
below_zero (negsuc n) = true

pub unsigned-digits : (ds rest : List ℕ) → 0 < length ds → list_all is_ascii_digit ds ≡ true → unsigned (ds ++ rest) ≡ ds ++ rest
unsigned-digits [] rest some e = absurd (omega arith)
unsigned-digits (d ∷ ds) rest some e = let here = (and_parts (is_ascii_digit d) (list_all is_ascii_digit ds) e).0 in rw (digit_no_plus d here, digit_no_minus d here)

pub is_negative-digits : (ds rest : List ℕ) → 0 < length ds → list_all is_ascii_digit ds ≡ true → is_negative (ds ++ rest) ≡ false
is_negative-digits [] rest some e = absurd (omega arith)
is_negative-digits (d ∷ ds) rest some e = digit_no_minus d (and_parts (is_ascii_digit d) (list_all is_ascii_digit ds) e).0

pub unsigned-sign_text : (m : ℤ) (ds rest : List ℕ) → 0 < length ds → list_all is_ascii_digit ds ≡ true → unsigned (sign_text m ++ (ds ++ rest)) ≡ ds ++ rest
unsigned-sign_text (pos n) ds rest some e = unsigned-digits ds rest some e
unsigned-sign_text (negsuc n) ds rest some e = refl

pub is_negative-sign_text : (m : ℤ) (ds rest : List ℕ) → 0 < length ds → list_all is_ascii_digit ds ≡ true → is_negative (sign_text m ++ (ds ++ rest)) ≡ below_zero m
is_negative-sign_text (pos n) ds rest some e = is_negative-digits ds rest some e
is_negative-sign_text (negsuc n) ds rest some e = refl

first_no_plus : (ds rest : List ℕ) → 0 < length ds → list_all is_ascii_digit ds ≡ true → get_or (ds ++ rest) 0 0 ≢ 43
first_no_plus [] rest some e = absurd (omega arith)
first_no_plus (d ∷ ds) rest some e = let no = digit_no_plus d (and_parts (is_ascii_digit d) (list_all is_ascii_digit ds) e).0 in λ h. grind (arith, nat_tests)

pub no_plus-sign_text : (m : ℤ) (ds rest : List ℕ) → 0 < length ds → list_all is_ascii_digit ds ≡ true → get_or (sign_text m ++ (ds ++ rest)) 0 0 ≢ 43
no_plus-sign_text (pos n) ds rest some e = first_no_plus ds rest some e
no_plus-sign_text (negsuc n) ds rest some e = λ h. omega arith

position_digits : (ds rest : List ℕ) → list_all is_ascii_digit ds ≡ true → position_or_len is_point rest ≡ 0 → position_or_len is_point (ds ++ rest) ≡ length ds
position_digits [] rest e stop = stop
position_digits (d ∷ ds) rest e stop =
    let parts = and_parts (is_ascii_digit d) (list_all is_ascii_digit ds) e in
    rw (digit_no_point d parts.0) (omega (arith, position_digits ds rest parts.1 stop))

position-with_point : (fs : List ℕ) → position_or_len is_point (with_point fs) ≡ 0
position-with_point [] = refl
position-with_point (f ∷ fs) = refl

drop-with_point : (fs : List ℕ) → drop 1 (with_point fs) ≡ fs
drop-with_point [] = refl
drop-with_point (f ∷ fs) = refl

pub before_first-digits : (ds fs : List ℕ) → list_all is_ascii_digit ds ≡ true → before_first is_point (ds ++ with_point fs) ≡ ds
before_first-digits ds fs e = ap (λ n. take n (ds ++ with_point fs)) (position_digits ds (with_point fs) e (position-with_point fs)) ∙ take_at ds (with_point fs) (length ds) refl

pub after_first-digits : (ds fs : List ℕ) → list_all is_ascii_digit ds ≡ true → after_first is_point (ds ++ with_point fs) ≡ fs
after_first-digits ds fs e =
    ap (λ n. drop (n + 1) (ds ++ with_point fs)) (position_digits ds (with_point fs) e (position-with_point fs))
    ∙ (sym (drop-drop 1 (length ds) (ds ++ with_point fs)) ∙ (ap (drop 1) (drop_at ds (with_point fs) (length ds) refl) ∙ drop-with_point fs))

has_point-digits : (ds rest : List ℕ) → list_all is_ascii_digit ds ≡ true → has_point (ds ++ rest) ≡ has_point rest
has_point-digits [] rest e = refl
has_point-digits (d ∷ ds) rest e =
    let parts = and_parts (is_ascii_digit d) (list_all is_ascii_digit ds) e in
    rw (digit_no_point d parts.0) (has_point-digits ds rest parts.1)

has_point-sign_text : (m : ℤ) (rest : List ℕ) → has_point (sign_text m ++ rest) ≡ has_point rest
has_point-sign_text (pos n) rest = refl
has_point-sign_text (negsuc n) rest = refl

pub has_point-text : (m : ℤ) (ds fs : List ℕ) → list_all is_ascii_digit ds ≡ true → has_point (sign_text m ++ (ds ++ with_point fs)) ≡ has_point (with_point fs)
has_point-text m ds fs e = has_point-sign_text m (ds ++ with_point fs) ∙ has_point-digits ds (with_point fs) e

pub point_some : (fs : List ℕ) → has_point (with_point fs) ≡ true → 0 < length fs
point_some [] h = absurd (false≢true h)
point_some (f ∷ fs) h = omega arith

pub some_point : (fs : List ℕ) → 0 < length fs → has_point (with_point fs) ≡ true
some_point [] h = absurd (omega arith)
some_point (f ∷ fs) h = refl

-- ---- from the text to the parts

pub sign_apart : (t : List ℕ) → get_or t 0 0 ≢ 43 → t ≡ cond (is_negative t) (45 ∷ []) [] ++ unsigned t
sign_apart [] h = refl
sign_apart (c ∷ cs) h =
    let no_plus : eqb c 43 ≡ false = grind (arith, nat_tests) in
    rw no_plus (elim (eqb c 45) as (λ b. eqb c 45 ≡ b → c ∷ cs ≡ cond b (45 ∷ []) [] ++ cond b cs (c ∷ cs)) [
      | true ↦ λ e. let minus : c ≡ 45 = grind (arith, nat_tests) in ap (λ d. d ∷ cs) minus
      | false ↦ λ e. refl
    ] refl)

pub has_point-unsigned : (t : List ℕ) → has_point (unsigned t) ≡ true → has_point t ≡ true
has_point-unsigned [] h = h
has_point-unsigned (c ∷ cs) h =
    (elim (eqb c 43 || eqb c 45) as (λ b. has_point (cond b cs (c ∷ cs)) ≡ true → has_point (c ∷ cs) ≡ true) [
      | true ↦ λ e. or_right (eqb c 46) (has_point cs) e
      | false ↦ λ e. e
    ]) h

has_point_here : (ds rest : List ℕ) → has_point (ds ++ 46 ∷ rest) ≡ true
has_point_here [] rest = refl
has_point_here (d ∷ ds) rest = or_right (eqb d 46) (has_point (ds ++ 46 ∷ rest)) (has_point_here ds rest)

pub with_point_some : (fs : List ℕ) → 0 < length fs → with_point fs ≡ 46 ∷ fs
with_point_some [] h = absurd (omega arith)
with_point_some (f ∷ fs) h = refl

pub point_apart : (u : List ℕ) → (has_point u ≡ true → 0 < length (after_first is_point u)) → u ≡ before_first is_point u ++ with_point (after_first is_point u)
point_apart u h = elim (cases_lt (position_or_len is_point u) (length u)) [
  | inl inside ↦
      let at_point : get_or u (position_or_len is_point u) 0 ≡ 46 = (let e = passes_at_first is_point u 0 inside in grind (arith, nat_tests)) in
      let split : u ≡ before_first is_point u ++ 46 ∷ after_first is_point u = split_at_first is_point u 0 inside ∙ ap (λ c. before_first is_point u ++ c ∷ after_first is_point u) at_point in
      let some = h (ap has_point split ∙ has_point_here (before_first is_point u) (after_first is_point u)) in
      split ∙ ap (λ r. before_first is_point u ++ r) (sym (with_point_some (after_first is_point u) some))
  | inr past ↦
      let all : before_first is_point u ≡ u = take_all (position_or_len is_point u) u past in
      let none : after_first is_point u ≡ [] = drop_all (position_or_len is_point u + 1) u (omega arith) in
      sym (append-nil u) ∙ (λ i. sym all i ++ with_point (sym none i))
]
