use Rattle.oim_write.proofs.Shared.{ℕ, List, [], length, Contains, flat_map, rows_of, HoldForUris, rows_left, Gains, row_names}
use Rattle.oim_write.proofs.prefix_table.PrefixTable.of.Given as goal

-- adding the URIs of the names in the remaining rows to the set gives the URIs of the names in all rows
abbrev pub invariant-loop-row : goal.invariant-loop-row
invariant-loop-row l = record {
  rest : (new : List (List ℕ)) → Gains l.set (flat_map row_names (rows_left l.rows)) new → Gains [] (flat_map row_names (rows_of l.base.body.facts)) new;
  known : HoldForUris (Contains l.set) l.known (rows_left l.rows);
}

abbrev pub decreases-loop-row : goal.decreases-loop-row
decreases-loop-row l = length (rows_left l.rows)
