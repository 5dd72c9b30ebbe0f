use Rattle.row_formats.proofs.Shared.{◌≡◌, ◌++◌, map, rows_of, rows_left, shown}
use Rattle.row_formats.proofs.row_length.has_long_row.Given as goal

-- the rows so far, then the rows that are left
abbrev pub invariant-loop-row : goal.invariant-loop-row
invariant-loop-row l = map shown l.yielded ++ rows_left l.row-iterator ≡ rows_of l.base.body.facts
