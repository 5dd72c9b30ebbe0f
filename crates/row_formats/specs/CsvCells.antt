-- The cells of CSV, and the texts in them that a spreadsheet may read as a formula (own). In bytes, `'` is 39.
use Rattle.std.specs.Prelude.{◌≡◌, ℕ, Bool, true, false, ◌&&◌, ◌||◌, ◌==◌, nat_lt, if◌then◌else◌, List, [], ◌∷◌}

-- U+FEFF in UTF-8: without it, a spreadsheet may read the text in another encoding
abbrev pub byte_order_mark : List ℕ
byte_order_mark = 239 ∷ 187 ∷ 191 ∷ []

-- bytes that a spreadsheet may skip before a formula: those below 33, quotes, and two ranges that include the bytes of spaces such as U+00A0 and U+3000
abbrev pub is_skipped : ℕ → Bool
is_skipped b = nat_lt b 33 || b == 34 || b == 39 || (nat_lt 127 b && nat_lt b 195) || (nat_lt 224 b && nat_lt b 228)

-- a byte that may begin a formula: + - = @, or 239, which begins full-width signs and U+FEFF
abbrev pub is_sign : ℕ → Bool
is_sign b = b == 43 || b == 45 || b == 61 || b == 64 || b == 239

abbrev pub begins_formula : List ℕ → Bool
begins_formula [] = false
begins_formula (b ∷ t) = if is_skipped b then begins_formula t else is_sign b

-- bytes behind which a spreadsheet that splits there begins another cell: tab, line feed, carriage return, ; and |
abbrev pub is_separator : ℕ → Bool
is_separator b = b == 9 || b == 10 || b == 13 || b == 59 || b == 124

-- the text, after a `'` if the test holds
abbrev pub marked : Bool → List ℕ → List ℕ
marked test t = if test then 39 ∷ t else t

-- a `'` after each separator behind which a formula begins
abbrev pub guarded_inside : List ℕ → List ℕ
guarded_inside [] = []
guarded_inside (b ∷ t) = b ∷ marked (begins_formula t && is_separator b) (guarded_inside t)

-- also a `'` before the text if it begins a formula
abbrev pub guarded : List ℕ → List ℕ
guarded t = marked (begins_formula t) (guarded_inside t)

-- the text in a cell of CSV, or of CSV for a spreadsheet
abbrev pub cell : Bool → List ℕ → List ℕ
cell spreadsheet t = if spreadsheet then guarded t else t

-- ---- laws

-- if a formula begins here, it begins with a `'`
abbrev pub IsMarked : List ℕ → Type 0
IsMarked [] = Unit {0}
IsMarked (b ∷ t) = begins_formula (b ∷ t) ≡ true → b ≡ 39

-- the same behind each separator
abbrev pub AreMarked : List ℕ → Type 0
AreMarked [] = Unit {0}
AreMarked (b ∷ t) = (is_separator b ≡ true → IsMarked t) × AreMarked t

-- wherever a cell of text may begin, a formula follows only a `'`
abbrev pub FormulasAreMarked : Type 0
FormulasAreMarked = (t : List ℕ) → IsMarked (guarded t) × AreMarked (guarded t)
