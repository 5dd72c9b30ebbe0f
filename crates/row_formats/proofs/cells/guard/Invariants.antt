use Rattle.row_formats.proofs.Shared.{◌≡◌, ◌≤◌, length, drop, reverse, begins_formula, guarded_inside}
use Rattle.row_formats.proofs.cells.guard.Given as goal

-- the bytes so far, in reverse, are the guarded rest of the text
abbrev pub invariant-loop-index : goal.invariant-loop-index
invariant-loop-index l = record {
  within : l.index ≤ length l.text;
  guarded : reverse l.backward.items ≡ guarded_inside (drop l.index l.text);
  formula : l.formula ≡ begins_formula (drop l.index l.text);
}

abbrev pub decreases-loop-index : goal.decreases-loop-index
decreases-loop-index l = l.index
