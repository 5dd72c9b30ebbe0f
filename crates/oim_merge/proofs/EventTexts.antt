-- The texts of numbers, and the lines of events.
use Rattle.oim_merge.proofs.Shared.{◌≡◌, ◌≢◌, ℕ, ◌^◌, ◌<◌, List, length, get_or, sym, ap, subst, ◌∙◌, arith, ◌+◌, ◌∷◌, ◌++◌, take, drop, cond, refl, Bool, ◌==◌, Result, Ok, Err, MatchOption, Some, None, position, result_ok, IsUtf8, AllDigits, ParsesUnsigned, digits_value, IsUtf8-from_ascii, IsNumberText, AreNumbersText, position_or_len, eqb-true, lt-ltb, ne_eqb, drop-drop, drop_at, drop_more, get_or_append_left, get_or_at, length-append, take_at, take-append-drop, position-Some, position_or_len_is, Take, Join, Send, Receive, Restart, LinesSayOneEvent}
use Rattle.std.specs.Fmt.{decimal}
use Rattle.std.proofs.lemmas.Fmt.{IsAscii-decimal, decimal_digit, decimal_is_IsNumeral, decimal-digits_value, first_decimal, parse-decimal, decimal_injective}
use Rattle.std.proofs.lemmas.Str.Parse.{IsNumeralModel, numerals_by_value, parse_plain, tells_digits, digit_at}

-- the text is not empty, begins with a character above `0`, and is UTF-8
pub record LooksLikeNumber (text : List ℕ) : Type 0 where
  pub some : 0 < length text
  pub leads : 48 < get_or text 0 0
  pub characters : IsUtf8 text

pub looks_like_number : (text : List ℕ) (n : ℕ) → IsNumberText text n → LooksLikeNumber text
looks_like_number text n is =
    let small : n < 2 ^ 64 = omega (arith, is.1.1) in
    let looks : LooksLikeNumber (decimal n) = record {
      some = (decimal_is_IsNumeral n small).0.0;
      leads = first_decimal n is.1.0 small;
      characters = IsUtf8-from_ascii (decimal n) (IsAscii-decimal n small);
    } in
    subst LooksLikeNumber (sym is.0) looks

own : IsNumeralModel (AllDigits 10) (digits_value 10)
own = numerals_by_value _ tells_digits

digits_are_text : (text : List ℕ) → AllDigits 10 text → 0 < length text → get_or text 0 0 ≢ 48 → digits_value 10 text < 2 ^ 32 → IsNumberText text (digits_value 10 text)
digits_are_text text digits some leads small =
    let text_is : decimal (digits_value 10 text) ≡ text = decimal-digits_value own text digits some (λ e. absurd (leads e)) (omega arith) in
    let not_zero : ¬ (digits_value 10 text ≡ 0) =
    (λ e. leads (ap (λ t. get_or t 0 0) (sym text_is ∙ ap decimal e ∙ decimal_digit 0 (omega arith)))) in
    (sym text_is, (grind (arith, not_zero), small))

-- parsing succeeds exactly on the text of a number, if the text begins with neither a plus nor a zero
pub parses_number : {E : Type 0} (text : List ℕ) (r : Result ℕ E) → ParsesUnsigned 32 10 text r → get_or text 0 0 ≢ 43 → get_or text 0 0 ≢ 48 → MatchOption (result_ok r) ((n : ℕ) → ¬ (IsNumberText text n)) (IsNumberText text)
parses_number {E = E} text (Ok x) h plus zero =
    let read = parse_plain own {E = E} 32 text (Ok x) h plus in
    subst (IsNumberText text) (sym read.1) (digits_are_text text read.0.0 read.0.1 zero read.0.2)
parses_number {E = E} text (Err e) h plus zero = λ n is. let read = parse-decimal {E = E} 32 n text (Err e) is.1.1 (omega (arith, is.1.1)) is.0 h in cc

-- ---- two numbers

abbrev pub is_space : ℕ → Bool
is_space c = c == 32

-- no digit is a space, so the first space follows the number
first_space_is : (m : ℕ) (rest : List ℕ) → m < 2 ^ 64 → position_or_len is_space (decimal m ++ 32 ∷ rest) ≡ length (decimal m)
first_space_is m rest small =
    let digits = (decimal_is_IsNumeral m small).0.1 in
    position_or_len_is is_space (decimal m ++ 32 ∷ rest) (length (decimal m)) 0 (omega (arith, length-append (decimal m) (32 ∷ rest)))
    (λ k less. ap is_space (get_or_append_left (decimal m) (32 ∷ rest) 0 k less) ∙ ne_eqb (get_or (decimal m) k 0) 32 (λ e. omega (arith, digit_at (decimal m) k digits less)))
    (λ _. ap is_space (get_or_at (decimal m) 32 rest 0 (length (decimal m)) refl))

space_behind : (m : ℕ) (rest : List ℕ) → m < 2 ^ 64 → position is_space (decimal m ++ 32 ∷ rest) ≡ Some (length (decimal m))
space_behind m rest small =
    let text = decimal m ++ 32 ∷ rest in
    let first = first_space_is m rest small in
    let within : position_or_len is_space text < length text = omega (arith, length-append (decimal m) (32 ∷ rest)) in
    ap (λ b. cond b (Some (position_or_len is_space text)) None) (lt-ltb _ _ within) ∙ ap Some first

space_of_numbers : (text : List ℕ) (m n : ℕ) → AreNumbersText text m n → position is_space text ≡ Some (length (decimal m))
space_of_numbers text m n are = ap (position is_space) are.0 ∙ space_behind m (decimal n) (omega (arith, are.1.0.1))

pub numbers_have_space : (text : List ℕ) (m n : ℕ) → position is_space text ≡ None → ¬ (AreNumbersText text m n)
numbers_have_space text m n none are = let space = space_of_numbers text m n are in cc

pub cut_numbers : (text : List ℕ) (m n index : ℕ) → AreNumbersText text m n → position is_space text ≡ Some index → IsNumberText (take index text) m × IsNumberText (drop (index + 1) text) n
cut_numbers text m n index are found =
    let space = space_of_numbers text m n are in
    let index_is : length (decimal m) ≡ index = cc in
    let second : drop index text ≡ 32 ∷ decimal n = ap (drop index) are.0 ∙ drop_at (decimal m) (32 ∷ decimal n) index index_is in
    ((ap (take index) are.0 ∙ take_at (decimal m) (32 ∷ decimal n) index index_is, are.1.0), (sym (drop-drop 1 index text) ∙ ap (drop 1) second, are.1.1))

pub joined_numbers : (text : List ℕ) (m n index : ℕ) → position is_space text ≡ Some index → IsNumberText (take index text) m → IsNumberText (drop (index + 1) text) n → AreNumbersText text m n
joined_numbers text m n index found first second =
    let space = position-Some is_space text index 0 found in
    let rest : drop index text ≡ 32 ∷ decimal n = drop_more text index 0 space.0 ∙ (λ i. eqb-true (get_or text index 0) 32 space.1 i ∷ second.0 i) in
    (sym (take-append-drop index text) ∙ (λ i. first.0 i ++ rest i), (first.1, second.1))

-- ---- a text spells at most one number, and at most one pair of numbers

pub same_number : (text : List ℕ) (m n : ℕ) → IsNumberText text m → IsNumberText text n → m ≡ n
same_number text m n is also = decimal_injective m n (omega (arith, is.1.1)) (omega (arith, also.1.1)) (sym is.0 ∙ also.0)

pub same_numbers : (text : List ℕ) (m n i j : ℕ) → AreNumbersText text m n → AreNumbersText text i j → (m ≡ i) × (n ≡ j)
same_numbers text m n i j are also =
    let index = length (decimal m) in
    let found = space_of_numbers text m n are in
    let cut = cut_numbers text m n index are found in
    let other = cut_numbers text i j index also found in
    (same_number (take index text) m i cut.0 other.0, same_number (drop (index + 1) text) n j cut.1 other.1)

-- ---- a line spells at most one event

-- the words of events differ in their third letters; after the same word, equal texts have equal numbers
pub lines_say_one_event : LinesSayOneEvent
lines_say_one_event line (Take i r) (Take j s) a b = let same = same_numbers (drop 5 line) i r j s (ap (drop 5) a.0, a.1) (ap (drop 5) b.0, b.1) in (λ k. Take (same.0 k) (same.1 k))
lines_say_one_event line (Join i r) (Join j s) a b = let same = same_numbers (drop 5 line) i r j s (ap (drop 5) a.0, a.1) (ap (drop 5) b.0, b.1) in (λ k. Join (same.0 k) (same.1 k))
lines_say_one_event line (Send i) (Send j) a b = ap Send (same_number (drop 5 line) i j (ap (drop 5) a.0, a.1) (ap (drop 5) b.0, b.1))
lines_say_one_event line (Receive i r) (Receive j s) a b = let same = same_numbers (drop 8 line) i r j s (ap (drop 8) a.0, a.1) (ap (drop 8) b.0, b.1) in (λ k. Receive (same.0 k) (same.1 k))
lines_say_one_event line (Restart i) (Restart j) a b = ap Restart (same_number (drop 8 line) i j (ap (drop 8) a.0, a.1) (ap (drop 8) b.0, b.1))
lines_say_one_event line e f a b = let third = ap (λ (l : List ℕ). get_or l 2 0) (sym a.0 ∙ b.0) in absurd (omega arith)
