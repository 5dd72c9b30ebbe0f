-- A text at fault as a JSON string that is cut if it is long (own).
use Rattle.std.specs.Prelude.{ℕ, List, ◌∷◌, ◌++◌, take, length, ◌==◌, if◌then◌else◌, chars, codes, encode_utf8_all}
use Rattle.json.specs.Print.{escape, quoted}
use Rattle.oim_explain.specs.Escaped.{escaped}
use Rattle.oim_explain.specs.declared.escaped.TheConstants.{MOST_CHARACTERS}

-- the first characters of a text
unfoldable pub front_of : List ℕ → List ℕ
front_of text = encode_utf8_all (take MOST_CHARACTERS (chars text))

-- the whole text, or its first characters with two dots in place of the closing quote
unfoldable pub quoted_front : List ℕ → List ℕ
quoted_front text =
    if length (front_of text) == length text then escaped (quoted (front_of text)) else escaped (34 ∷ escape (front_of text)) ++ codes ".."
