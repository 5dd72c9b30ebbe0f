use Rattle.std.proofs.Common.{◌≡◌, ◌≢◌, ◌<◌, ◌+◌, ℕ, List, Bor, get_or, true}
use Rattle.command_line.specs.Refused.{refuses}
use Rattle.command_line.proofs.output.is_refused.Given as goal

-- no refused report so far has the name
abbrev pub invariant-loop-index : goal.invariant-loop-index
invariant-loop-index g l = (i : ℕ) → i < l.index → refuses l.success (i + 1) ≡ true → (d : Bor (List ℕ)) → (get_or l.reports i d).now ≢ l.name
