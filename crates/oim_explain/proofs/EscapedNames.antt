-- Different names have different escaped names: the first character of a name can be read from the escaped name.
use Rattle.std.proofs.Common.{◌≡◌, ℕ, ◌+◌, ◌-◌, ◌*◌, ◌/◌, ◌%◌, ◌<◌, ◌≤◌, List, [], ◌∷◌, ◌++◌, Bool, not, ◌&&◌, true, false, refl, sym, ap, ◌∙◌, append-nil, arith, drop, get_or, encode_utf8_all, flat_map}
use Rattle.std.specs.Prelude.{◌==◌, if◌then◌else◌, cond, nat_lt}
use Rattle.std.specs.Char.{digit_char, digit_value, encode_utf8, IsScalar}
use Rattle.std.specs.Char.Escape.{encode_utf16}
use Rattle.std.specs.Int.{is_in_range}
use Rattle.std.specs.Str.{all_scalars, chars}
use lib.Utf8.{scalar}
use Rattle.std.proofs.Math.Utf8.{scalar_cases}
use Rattle.std.proofs.lemmas.Bool.{and_parts, not-true, true≢false}
use Rattle.std.proofs.lemmas.Bool.Decides.{nat_tests}
use Rattle.std.proofs.lemmas.List.{append_cancel_left}
use Rattle.std.proofs.lemmas.Str.{IsUtf8-encode, IsUtf8-from_ascii, chars-IsAscii, chars-append, chars-encodes, chars-nil, digit_value-digit_char, encodes-chars, scalars-chars}
use Rattle.oim_explain.specs.Escaped.{EscapedNamesDiffer, character_escape, escaped_name, is_shown, name_characters, unit_escape}
use Rattle.oim_explain.proofs.EscapedLaws.{units_ascii}

-- ---- the unit that an escape stands for

number_of : ℕ → ℕ → ℕ → ℕ → ℕ
number_of a b c d = 0x1000 * a + (0x100 * b + (0x10 * c + d))

abbrev unit_of : List ℕ → ℕ
unit_of text = number_of (digit_value (get_or text 2 0)) (digit_value (get_or text 3 0)) (digit_value (get_or text 4 0)) (digit_value (get_or text 5 0))

number_is : (u : ℕ) → u < 0x1_0000 → number_of (u / 0x1000 % 16) (u / 0x100 % 16) (u / 0x10 % 16) (u / 1 % 16) ≡ u
unfolding number_of
number_is u small = omega arith

unit_read : (u : ℕ) (s : List ℕ) → u < 0x1_0000 → unit_of (unit_escape u ++ s) ≡ u
unit_read u s small =
    let read : (n : ℕ) → digit_value (digit_char (n % 16)) ≡ n % 16 = λ n. digit_value-digit_char (n % 16) (omega arith) in
    let all : unit_of (unit_escape u ++ s) ≡ number_of (u / 0x1000 % 16) (u / 0x100 % 16) (u / 0x10 % 16) (u / 1 % 16) =
    λ i. number_of (read (u / 0x1000) i) (read (u / 0x100) i) (read (u / 0x10) i) (read (u / 1) i) in
    all ∙ number_is u small

-- ---- the first character of a name

abbrev high : ℕ → ℕ
high c = 0xD800 + (c - 0x1_0000) / 0x400

abbrev low : ℕ → ℕ
low c = 0xDC00 + (c - 0x1_0000) % 0x400

abbrev of_pair : ℕ → ℕ → ℕ
of_pair first second = 0x1_0000 + (0x400 * (first - 0xD800) + (second - 0xDC00))

-- the second unit counts only behind the first one of a pair
abbrev of_units : ℕ → ℕ → ℕ
of_units first second = if is_in_range 0xD800 0xDBFF first then of_pair first second else first

-- no character has the number 0x110000, which stands for the end
abbrev first_of : List ℕ → ℕ
first_of text =
    if (get_or text 0 0x11_0000 == 92) && (get_or text 1 0x11_0000 == 117) then of_units (unit_of text) (unit_of (drop 6 text)) else get_or text 0 0x11_0000

pair_is : (c : ℕ) → 0x1_0000 ≤ c → c < 0x11_0000 → of_units (high c) (low c) ≡ c
pair_is c least most =
    let is_pair : is_in_range 0xD800 0xDBFF (high c) ≡ true = grind (arith, nat_tests, least, most) in
    let sum : of_pair (high c) (low c) ≡ c = omega (arith, least) in
    ap (λ b. if b then of_pair (high c) (low c) else high c) is_pair ∙ sum

abbrev escape_of : Bool → ℕ → List ℕ
escape_of small c = flat_map unit_escape (cond small (c ∷ []) (high c ∷ low c ∷ []))

escape_read : (c : ℕ) (s : List ℕ) (small : Bool) → nat_lt c 0x1_0000 ≡ small → IsScalar c → first_of (escape_of small c ++ s) ≡ c
escape_read c s true is fits =
    let cases = scalar_cases c fits in
    let alone : is_in_range 0xD800 0xDBFF c ≡ false = grind (arith, nat_tests, cases) in
    ap (λ u. of_units u (unit_of s)) (unit_read c s (grind (arith, nat_tests, is))) ∙ ap (λ b. if b then of_pair c (unit_of s) else c) alone
escape_read c s false is fits =
    let least : 0x1_0000 ≤ c = grind (arith, nat_tests, is) in
    let cases = scalar_cases c fits in
    let most : c < 0x11_0000 = grind (arith, cases) in
    let first = unit_read (high c) (unit_escape (low c) ++ s) (omega (arith, most)) in
    let second = unit_read (low c) s (omega arith) in
    let both : first_of (escape_of false c ++ s) ≡ of_units (high c) (low c) = λ i. of_units (first i) (second i) in
    both ∙ pair_is c least most

escape_begins : (c : ℕ) (s : List ℕ) (small : Bool) → get_or (escape_of small c ++ s) 0 0x11_0000 ≡ 92
escape_begins c s true = refl
escape_begins c s false = refl

-- ---- the characters of an escaped name

abbrev stays : Bool → ℕ → Bool
stays after c = is_shown c && not (after && (c == 117))

abbrev spelled : Bool → ℕ → List ℕ
spelled plain c = if plain then c ∷ [] else character_escape c

abbrev characters : Bool → List ℕ → List ℕ
characters after [] = []
characters after (c ∷ cs) = spelled (stays after c) c ++ characters (c == 92) cs

chars_past : (c : ℕ) (rest : List ℕ) (plain : Bool) → IsScalar c → chars ((if plain then encode_utf8 c else character_escape c) ++ rest) ≡ spelled plain c ++ chars rest
chars_past c rest true fits =
    let alone = ap chars (sym (append-nil (encode_utf8 c))) ∙ chars-encodes (c ∷ []) (ap (λ b. b && true) fits) in
    chars-append (encode_utf8 c) rest (IsUtf8-encode c fits) ∙ ap (λ e. e ++ chars rest) alone
chars_past c rest false fits =
    let ascii = units_ascii (encode_utf16 c) in
    chars-append (character_escape c) rest (IsUtf8-from_ascii (character_escape c) ascii) ∙ ap (λ e. e ++ chars rest) (chars-IsAscii (character_escape c) ascii)

characters_are : (after : Bool) (cs : List ℕ) → all_scalars cs ≡ true → chars (name_characters after cs) ≡ characters after cs
characters_are after [] scalars = chars-nil
characters_are after (c ∷ cs) scalars =
    let both = and_parts (scalar c) (all_scalars cs) scalars in
    chars_past c (name_characters (c == 92) cs) (stays after c) both.0 ∙ ap (λ e. spelled (stays after c) c ++ e) (characters_are (c == 92) cs both.1)

-- after a backslash, no `u` stays
u_is_escaped : (c : ℕ) (s : List ℕ) (plain : Bool) → stays true c ≡ plain → (get_or (spelled plain c ++ s) 0 0x11_0000 == 117) ≡ false
u_is_escaped c s true is = not-true (c == 117) (and_parts (is_shown c) (not (c == 117)) is).1
u_is_escaped c s false is = ap (λ n. n == 117) (escape_begins c s (nat_lt c 0x1_0000))

no_escape : (after : Bool) (cs : List ℕ) → (after && (get_or (characters after cs) 0 0x11_0000 == 117)) ≡ false
no_escape false cs = refl
no_escape true [] = refl
no_escape true (c ∷ cs) = u_is_escaped c (characters (c == 92) cs) (stays true c) refl

first_read : (c : ℕ) (cs : List ℕ) (plain : Bool) → IsScalar c → first_of (spelled plain c ++ characters (c == 92) cs) ≡ c
first_read c cs true fits =
    let text = c ∷ characters (c == 92) cs in
    ap (λ b. if b then of_units (unit_of text) (unit_of (drop 6 text)) else c) (no_escape (c == 92) cs)
first_read c cs false fits = escape_read c (characters (c == 92) cs) (nat_lt c 0x1_0000) refl fits

-- ---- two names

first_in : (after : Bool) (c : ℕ) (cs : List ℕ) → all_scalars (c ∷ cs) ≡ true → first_of (characters after (c ∷ cs)) ≡ c
first_in after c cs scalars = first_read c cs (stays after c) (and_parts (scalar c) (all_scalars cs) scalars).0

some : (after : Bool) (c : ℕ) (cs : List ℕ) → all_scalars (c ∷ cs) ≡ true → [] ≡ characters after (c ∷ cs) → ⊥
some after c cs scalars none =
    let is_end : 0x11_0000 ≡ c = ap first_of none ∙ first_in after c cs scalars in
    true≢false (sym (and_parts (scalar c) (all_scalars cs) scalars).0 ∙ ap scalar (sym is_end))

same_characters : (after : Bool) (cs ds : List ℕ) → all_scalars cs ≡ true → all_scalars ds ≡ true → characters after cs ≡ characters after ds → cs ≡ ds
same_characters after [] [] one other same = refl
same_characters after [] (d ∷ ds) one other same = absurd (some after d ds other same)
same_characters after (c ∷ cs) [] one other same = absurd (some after c cs one (sym same))
same_characters after (c ∷ cs) (d ∷ ds) one other same =
    let first = sym (first_in after c cs one) ∙ ap first_of same ∙ first_in after d ds other in
    let aligned = same ∙ ap (λ e. spelled (stays after e) e ++ characters (e == 92) ds) (sym first) in
    let rest = append_cancel_left (spelled (stays after c) c) (characters (c == 92) cs) (characters (c == 92) ds) aligned in
    (λ i. first i ∷ same_characters (c == 92) cs ds (and_parts (scalar c) (all_scalars cs) one).1 (and_parts (scalar d) (all_scalars ds) other).1 rest i)

pub escaped_names_differ : EscapedNamesDiffer
unfolding escaped_name
escaped_names_differ one other utf8_one utf8_other same =
    let scalars = scalars-chars one utf8_one in
    let others = scalars-chars other utf8_other in
    let characters_same = sym (characters_are false (chars one) scalars) ∙ ap chars same ∙ characters_are false (chars other) others in
    sym (encodes-chars one utf8_one) ∙ ap encode_utf8_all (same_characters false (chars one) (chars other) scalars others characters_same) ∙ encodes-chars other utf8_other
