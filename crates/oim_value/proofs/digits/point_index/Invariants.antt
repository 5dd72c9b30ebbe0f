use Rattle.oim_value.proofs.Shared.{◌≡◌, ◌<◌, ℕ, get_or, false, is_point}
use Rattle.oim_value.proofs.digits.point_index.Given as goal

abbrev pub invariant-loop-i : goal.invariant-loop-i
invariant-loop-i l = (k : ℕ) → k < l.i → is_point (get_or l.body k 0) ≡ false
