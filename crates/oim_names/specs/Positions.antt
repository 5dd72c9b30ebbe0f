-- A cache with one index for each class of texts (own).
use Rattle.std.specs.Prelude.{ℕ, List, length, ◌+◌, ◌-◌, ◌*◌, ◌%◌}
use Rattle.std.specs.List.{slice_index_or}

-- the byte at index length - back, for `back` of at least 1; the first byte if t has fewer than `back` bytes; 0 if t is empty
abbrev pub byte_from_end : List ℕ → ℕ → ℕ
byte_from_end t back = slice_index_or t (length t - back) 0

-- the class of a text depends on its length and its last four bytes
unfoldable pub text_class : List ℕ → ℕ
text_class t = (length t % 2048 + 31 * (byte_from_end t 1 + 31 * (byte_from_end t 2 + 31 * (byte_from_end t 3 + 31 * byte_from_end t 4)))) % 2048

-- the index stored for a text's class, or 0 if `indices` is too short
abbrev pub index_in : List ℕ → List ℕ → ℕ
index_in indices t = slice_index_or indices (text_class t) 0
