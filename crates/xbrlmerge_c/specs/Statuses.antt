-- The statuses that a call returns (own).
use Rattle.std.specs.Prelude.{ℕ}

-- every report was accepted
abbrev pub done : ℕ
done = 0

-- at least one report was refused
abbrev pub refused_some : ℕ
refused_some = 1

-- a dimension set has duplicates above the allowed level
abbrev pub too_loose : ℕ
too_loose = 2

-- the text or the refusals are longer than their buffer; both lengths are returned
abbrev pub too_short : ℕ
too_short = 3

-- the sheet is refused, and its refusal is returned
abbrev pub sheet_refused : ℕ
sheet_refused = 4

-- memory was refused; the caller's memory is unchanged
abbrev pub no_memory : ℕ
no_memory = 5

-- an end is less than the end before it, or greater than the number of bytes
abbrev pub bad_ends : ℕ
bad_ends = 6

-- there is no level with this number
abbrev pub bad_level : ℕ
bad_level = 7

-- the text is longer than the caller's bound; the caller's memory is unchanged
abbrev pub too_much : ℕ
too_much = 8
