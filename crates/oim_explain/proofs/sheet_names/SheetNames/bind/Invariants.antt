use Rattle.std.proofs.Common.{◌≡◌}
use Rattle.oim_explain.proofs.sheet_names.SheetNames.bind.Given as goal

abbrev pub invariant-loop-prefix : goal.invariant-loop-prefix
invariant-loop-prefix l = l.self.sheet ≡ l.fn.self.sheet
