-- Languages (XML Schema Part 2, section 3.3.3, the pattern of `language`; OIM 1.0, the core dimension language, in lower case).
use Rattle.std.specs.Prelude.{◌≡◌, ℕ, Bool, ◌&&◌, ◌==◌, List, length, IsTrue}
use Rattle.std.specs.Int.{is_in_range}
use Rattle.std.specs.List.{list_all, slice_split, before_first}
use Rattle.std.specs.Str.{str_to_ascii_lowercase}
use Rattle.std.specs.Char.{is_ascii_alphabetic, is_ascii_alphanumeric}

abbrev pub is_hyphen : ℕ → Bool
is_hyphen c = c == 45

-- one to eight letters or digits
abbrev pub is_group : List ℕ → Bool
is_group g = is_in_range 1 8 (length g) && list_all is_ascii_alphanumeric g

-- groups with hyphens between them; the first group has only letters
abbrev pub is_language : List ℕ → Bool
is_language t = list_all is_group (slice_split is_hyphen t) && list_all is_ascii_alphabetic (before_first is_hyphen t)

-- the text in lower case is a language, and a second conversion changes nothing
pub record IsKeptInLowerCase (t : List ℕ) : Type 0 where
  pub language : IsTrue (is_language (str_to_ascii_lowercase t))
  pub same : str_to_ascii_lowercase (str_to_ascii_lowercase t) ≡ str_to_ascii_lowercase t

abbrev pub LanguagesAreKept : Type 0
LanguagesAreKept = (t : List ℕ) → IsTrue (is_language t) → IsKeptInLowerCase t
