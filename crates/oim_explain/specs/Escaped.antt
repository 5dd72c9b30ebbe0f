-- Text that is safe to print on a terminal (own).
use Rattle.std.specs.Prelude.{◌≡◌, ◌==◌, ℕ, List, [], ◌∷◌, ◌++◌, flat_map, Bool, true, false, not, ◌&&◌, if◌then◌else◌}
use Rattle.std.specs.Char.{encode_utf8, is_control}
use Rattle.std.specs.Int.{is_in_range}
use Rattle.std.specs.Char.Escape.{encode_utf16, hex_digit_at}
use Rattle.std.specs.List.{list_all, list_any}
use Rattle.std.specs.Str.{IsUtf8, chars}

-- ranges of common characters that are invisible, end the line or change its direction
abbrev pub hidden : List (ℕ × ℕ)
hidden =
    (0xAD, 0xAD) ∷ (0x61C, 0x61C) ∷ (0x115F, 0x1160) ∷ (0x17B4, 0x17B5) ∷ (0x180B, 0x180F) ∷ (0x200B, 0x200F) ∷ (0x2028, 0x202E)
    ∷ (0x2060, 0x206F) ∷ (0x3164, 0x3164) ∷ (0xFE00, 0xFE0F) ∷ (0xFEFF, 0xFEFF) ∷ (0xFFA0, 0xFFA0) ∷ (0xFFF0, 0xFFFB)
    ∷ (0xE_0000, 0xE_0FFF) ∷ []

-- ranges of characters that look like a space, or like nothing between letters or notes
abbrev pub blank : List (ℕ × ℕ)
blank =
    (0xA0, 0xA0) ∷ (0x34F, 0x34F) ∷ (0x1680, 0x1680) ∷ (0x2000, 0x200A) ∷ (0x202F, 0x202F) ∷ (0x205F, 0x205F) ∷ (0x2800, 0x2800)
    ∷ (0x3000, 0x3000) ∷ (0x1_BCA0, 0x1_BCA3) ∷ (0x1_D173, 0x1_D17A) ∷ []

abbrev pub is_within : ℕ → ℕ × ℕ → Bool
is_within c range = is_in_range range.0 range.1 c

unfoldable pub is_shown : ℕ → Bool
is_shown c = not (is_control c) && (not (list_any (is_within c) hidden) && not (list_any (is_within c) blank))

-- the JSON escape of a unit of 16 bits (RFC 8259, section 7)
abbrev pub unit_escape : ℕ → List ℕ
unit_escape u = 92 ∷ 117 ∷ hex_digit_at 0x1000 u ∷ hex_digit_at 0x100 u ∷ hex_digit_at 0x10 u ∷ hex_digit_at 1 u ∷ []

abbrev pub character_escape : ℕ → List ℕ
character_escape c = flat_map unit_escape (encode_utf16 c)

abbrev pub escaped_character : ℕ → List ℕ
escaped_character c = if is_shown c then encode_utf8 c else character_escape c

-- the text, with an escape in place of each character that is not shown
unfoldable pub escaped : List ℕ → List ℕ
escaped text = flat_map escaped_character (chars text)

-- ---- the name of a file

-- A character of a name. A `u` (117) after a backslash (92) has an escape too, since a name with `\u` would look like the escape
-- of another name.
abbrev pub name_character : Bool → ℕ → List ℕ
name_character after_backslash c = if is_shown c && not (after_backslash && (c == 117)) then encode_utf8 c else character_escape c

abbrev pub name_characters : Bool → List ℕ → List ℕ
name_characters after_backslash [] = []
name_characters after_backslash (c ∷ cs) = name_character after_backslash c ++ name_characters (c == 92) cs

unfoldable pub escaped_name : List ℕ → List ℕ
escaped_name name = name_characters false (chars name)

-- ---- laws

-- each character of an escaped text or name is shown
abbrev pub EscapedIsShown : Type 0
EscapedIsShown = ((text : List ℕ) → IsUtf8 text → list_all is_shown (chars (escaped text)) ≡ true)
    × ((name : List ℕ) → IsUtf8 name → list_all is_shown (chars (escaped_name name)) ≡ true)

-- names that are printed alike are equal
abbrev pub EscapedNamesDiffer : Type 0
EscapedNamesDiffer = (one other : List ℕ) → IsUtf8 one → IsUtf8 other → escaped_name one ≡ escaped_name other → one ≡ other
