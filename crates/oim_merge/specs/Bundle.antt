-- A bundle: its first line is a sheet, and each later line that is not empty is a report (own). In bytes, a line end is 10.
use Rattle.std.specs.Prelude.{ℕ, List, length, drop, filter, Bool, not, ◌==◌}
use Rattle.std.specs.List.{before_first, slice_split}

abbrev pub is_line_end : ℕ → Bool
is_line_end c = c == 10

abbrev pub is_filled : List ℕ → Bool
is_filled piece = not (length piece == 0)

-- the pieces that line ends separate
abbrev pub line_pieces : List ℕ → List (List ℕ)
line_pieces bytes = slice_split is_line_end bytes

-- the sheet: the first piece
abbrev pub sheet_piece : List ℕ → List ℕ
sheet_piece bytes = before_first is_line_end bytes

abbrev pub filled_pieces : List ℕ → List (List ℕ)
filled_pieces bytes = filter is_filled (line_pieces bytes)

-- the reports: the later pieces that are not empty
abbrev pub report_pieces : List ℕ → List (List ℕ)
report_pieces bytes = filter is_filled (drop 1 (line_pieces bytes))
