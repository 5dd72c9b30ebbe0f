-- The characters of an escaped text.
use Rattle.std.proofs.Common.{◌≡◌, ℕ, ◌/◌, ◌%◌, ◌<◌, ◌≤◌, List, [], ◌∷◌, ◌++◌, Bool, not, ◌&&◌, ◌||◌, true, false, refl, sym, ap, ◌∙◌, append-nil, arith, encode_utf8_all, flat_map}
use Rattle.std.specs.Prelude.{◌==◌, if◌then◌else◌, nat_le}
use Rattle.std.specs.List.{list_all, list_any}
use Rattle.std.specs.Char.{digit_char, encode_utf8, is_control, IsScalar}
use Rattle.std.specs.Char.Escape.{encode_utf16}
use Rattle.std.specs.Int.{is_in_range}
use Rattle.std.specs.Str.{IsAscii, IsUtf8, all_scalars, chars}
use lib.Dec.{lit<, lit≤}
use lib.Utf8.{scalar}
use Rattle.std.proofs.lemmas.Bool.{and_from, and_parts}
use Rattle.std.proofs.lemmas.Bool.Decides.{nat_tests}
use Rattle.std.proofs.lemmas.List.Folds.{list_all-append}
use Rattle.std.proofs.lemmas.Nat.{mod_below}
use Rattle.std.proofs.lemmas.Str.{IsAscii-append, IsUtf8-append, IsUtf8-encode, IsUtf8-from_ascii, IsUtf8-nil, chars-IsAscii, chars-append, chars-encodes, chars-nil, chars_past_char, encodes-chars, scalars-chars}
use Rattle.std.proofs.lemmas.Str.Ascii.{IsAscii-cons, IsAscii-nil}
use Rattle.oim_explain.specs.Escaped.{EscapedIsShown, blank, character_escape, escaped, escaped_character, escaped_name, hidden, is_shown, is_within, name_character, name_characters, unit_escape}

pub escaped_nil : escaped [] ≡ []
unfolding escaped
escaped_nil = ap (flat_map escaped_character) chars-nil

escaped_step : (text rest : List ℕ) (c : ℕ) → IsUtf8 text → text ≡ encode_utf8 c ++ rest → escaped text ≡ escaped_character c ++ escaped rest
unfolding escaped
escaped_step text rest c utf8 is = ap (flat_map escaped_character) (chars_past_char text rest c utf8 is)

module _ (text rest : List ℕ) (c : ℕ) (utf8 : IsUtf8 text) (is : text ≡ encode_utf8 c ++ rest) where
  pub shown_step : is_shown c ≡ true → escaped text ≡ encode_utf8 c ++ escaped rest
  shown_step shown = escaped_step text rest c utf8 is ∙ ap (λ b. (if b then encode_utf8 c else character_escape c) ++ escaped rest) shown

  pub hidden_step : is_shown c ≡ false → escaped text ≡ character_escape c ++ escaped rest
  hidden_step hidden = escaped_step text rest c utf8 is ∙ ap (λ b. (if b then encode_utf8 c else character_escape c) ++ escaped rest) hidden

-- ---- a text whose characters are all shown

each_as_it_is : (cs : List ℕ) → list_all is_shown cs ≡ true → flat_map escaped_character cs ≡ encode_utf8_all cs
each_as_it_is [] all = refl
each_as_it_is (c ∷ cs) all =
    let both = and_parts (is_shown c) (list_all is_shown cs) all in
    (λ i. (if both.0 i then encode_utf8 c else character_escape c) ++ each_as_it_is cs both.1 i)

pub as_it_is : (text : List ℕ) → IsUtf8 text → list_all is_shown (chars text) ≡ true → escaped text ≡ text
unfolding escaped
as_it_is text utf8 all = each_as_it_is (chars text) all ∙ encodes-chars text utf8

-- ---- the characters of an escape

no_control : (c : ℕ) → 32 ≤ c → c < 127 → is_control c ≡ false
no_control c above low = grind (arith, nat_tests)

outside : (first last c : ℕ) → c < 127 → nat_le 127 first ≡ true → is_in_range first last c ≡ false
outside first last c low high = grind (arith, nat_tests)

-- each hidden character is above the printable ones
none_hidden : (c : ℕ) (ranges : List (ℕ × ℕ)) → c < 127 → list_all (λ r. nat_le 127 r.0) ranges ≡ true → list_any (is_within c) ranges ≡ false
none_hidden c [] low above = refl
none_hidden c (r ∷ ranges) low above =
    let both = and_parts (nat_le 127 r.0) (list_all (λ r. nat_le 127 r.0) ranges) above in
    ap (λ b. b || list_any (is_within c) ranges) (outside r.0 r.1 c low both.0) ∙ none_hidden c ranges low both.1

printable_shown : (c : ℕ) → 32 ≤ c → c < 127 → is_shown c ≡ true
unfolding is_shown
printable_shown c above low =
    ap (λ b. not b && (not (list_any (is_within c) hidden) && not (list_any (is_within c) blank))) (no_control c above low)
    ∙ ap (λ b. not b && not (list_any (is_within c) blank)) (none_hidden c hidden low refl) ∙ ap not (none_hidden c blank low refl)

digit_bounds : (d : ℕ) → d < 16 → (48 ≤ digit_char d) × (digit_char d < 103)
digit_bounds d small = grind (arith, nat_tests)

digit_ascii : (d : ℕ) → d < 16 → digit_char d < 128
digit_ascii d small = omega (arith, (digit_bounds d small).1)

digit_shown : (d : ℕ) → d < 16 → is_shown (digit_char d) ≡ true
digit_shown d small = let both = digit_bounds d small in printable_shown (digit_char d) (omega (arith, both.0)) (omega (arith, both.1))

below : (n : ℕ) → n % 16 < 16
below n = mod_below n 16 (omega arith)

unit_ascii : (u : ℕ) → IsAscii (unit_escape u)
unit_ascii u =
    let one = λ (d : ℕ) (ds : List ℕ) (rest : IsAscii ds). IsAscii-cons (digit_char (d % 16)) ds (digit_ascii (d % 16) (below d)) rest in
    let last = digit_char (u / 1 % 16) ∷ [] in
    let third = digit_char (u / 0x10 % 16) ∷ last in
    let second = digit_char (u / 0x100 % 16) ∷ third in
    let digits = digit_char (u / 0x1000 % 16) ∷ second in
    IsAscii-cons 92 (117 ∷ digits) (lit< tt) (IsAscii-cons 117 digits (lit< tt)
    (one (u / 0x1000) second (one (u / 0x100) third (one (u / 0x10) last (one (u / 1) [] IsAscii-nil)))))

shown_first : (d : ℕ) (ds : List ℕ) → list_all is_shown ds ≡ true → list_all is_shown (digit_char (d % 16) ∷ ds) ≡ true
shown_first d ds rest = and_from (is_shown (digit_char (d % 16))) (list_all is_shown ds) (digit_shown (d % 16) (below d)) rest

unit_shown : (u : ℕ) → list_all is_shown (unit_escape u) ≡ true
unit_shown u =
    let last = digit_char (u / 1 % 16) ∷ [] in
    let third = digit_char (u / 0x10 % 16) ∷ last in
    let second = digit_char (u / 0x100 % 16) ∷ third in
    let digits = digit_char (u / 0x1000 % 16) ∷ second in
    let shown = shown_first (u / 0x1000) second (shown_first (u / 0x100) third (shown_first (u / 0x10) last (shown_first (u / 1) [] refl))) in
    and_from (is_shown 92) (list_all is_shown (117 ∷ digits)) (printable_shown 92 (lit≤ tt) (lit< tt))
    (and_from (is_shown 117) (list_all is_shown digits) (printable_shown 117 (lit≤ tt) (lit< tt)) shown)

pub units_ascii : (us : List ℕ) → IsAscii (flat_map unit_escape us)
units_ascii [] = IsAscii-nil
units_ascii (u ∷ us) = IsAscii-append (unit_escape u) (flat_map unit_escape us) (unit_ascii u) (units_ascii us)

units_shown : (us : List ℕ) → list_all is_shown (flat_map unit_escape us) ≡ true
units_shown [] = refl
units_shown (u ∷ us) = list_all-append is_shown (unit_escape u) (flat_map unit_escape us) ∙ and_from (list_all is_shown (unit_escape u)) (list_all is_shown (flat_map unit_escape us)) (unit_shown u) (units_shown us)

-- ---- the characters of an escaped text

abbrev AllShown : List ℕ → Type 0
AllShown text = IsUtf8 text × (list_all is_shown (chars text) ≡ true)

escape_shown : (c : ℕ) → AllShown (character_escape c)
escape_shown c =
    let ascii = units_ascii (encode_utf16 c) in
    (IsUtf8-from_ascii (character_escape c) ascii, ap (list_all is_shown) (chars-IsAscii (character_escape c) ascii) ∙ units_shown (encode_utf16 c))

one_shown : (c : ℕ) → IsScalar c → is_shown c ≡ true → AllShown (encode_utf8 c)
one_shown c fits shown =
    let alone = ap chars (sym (append-nil (encode_utf8 c))) ∙ chars-encodes (c ∷ []) (ap (λ b. b && true) fits) in
    (IsUtf8-encode c fits, ap (list_all is_shown) alone ∙ ap (λ b. b && true) shown)

by_case : (c : ℕ) (shown : Bool) → is_shown c ≡ shown → IsScalar c → AllShown (if shown then encode_utf8 c else character_escape c)
by_case c true is fits = one_shown c fits is
by_case c false is fits = escape_shown c

none_shown : AllShown []
none_shown = (IsUtf8-nil, ap (list_all is_shown) chars-nil)

both_shown : (s t : List ℕ) → AllShown s → AllShown t → AllShown (s ++ t)
both_shown s t one rest = (
  IsUtf8-append s t one.0 rest.0,
  ap (list_all is_shown) (chars-append s t one.0) ∙ list_all-append is_shown (chars s) (chars t) ∙ and_from (list_all is_shown (chars s)) (list_all is_shown (chars t)) one.1 rest.1,
)

all_shown : (cs : List ℕ) → all_scalars cs ≡ true → AllShown (flat_map escaped_character cs)
all_shown [] scalars = none_shown
all_shown (c ∷ cs) scalars =
    let both = and_parts (scalar c) (all_scalars cs) scalars in
    both_shown (escaped_character c) (flat_map escaped_character cs) (by_case c (is_shown c) refl both.0) (all_shown cs both.1)

-- ---- the characters of an escaped name

in_name : (c : ℕ) (shown other : Bool) → is_shown c ≡ shown → IsScalar c → AllShown (if shown && other then encode_utf8 c else character_escape c)
in_name c true true is fits = one_shown c fits is
in_name c true false is fits = escape_shown c
in_name c false other is fits = escape_shown c

name_shown : (after : Bool) (cs : List ℕ) → all_scalars cs ≡ true → AllShown (name_characters after cs)
name_shown after [] scalars = none_shown
name_shown after (c ∷ cs) scalars =
    let both = and_parts (scalar c) (all_scalars cs) scalars in
    both_shown (name_character after c) (name_characters (c == 92) cs) (in_name c (is_shown c) (not (after && (c == 117))) refl both.0) (name_shown (c == 92) cs both.1)

pub escaped_is_shown : EscapedIsShown
unfolding escaped escaped_name
escaped_is_shown = (
  λ text utf8. (all_shown (chars text) (scalars-chars text utf8)).1,
  λ name utf8. (name_shown false (chars name) (scalars-chars name utf8)).1,
)
