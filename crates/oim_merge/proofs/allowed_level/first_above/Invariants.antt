use Rattle.oim_merge.proofs.Shared.{◌≡◌, ◌++◌, false, length, map, All, rows_of, rows_left, shown, row_is_above}
use Rattle.oim_merge.proofs.allowed_level.first_above.Given as goal

-- the rows so far are counted, and none is above the level
abbrev pub invariant-loop-row : goal.invariant-loop-row
invariant-loop-row l = record {
  rows : map shown l.yielded ++ rows_left l.row-iterator ≡ rows_of l.base.body.facts;
  count : l.number ≡ length l.yielded;
  within : All (λ r. row_is_above l.allow r ≡ false) (map shown l.yielded);
}
