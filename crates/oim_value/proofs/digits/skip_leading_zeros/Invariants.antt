use Rattle.oim_value.proofs.Shared.{◌≡◌, length, without_leading}
use Rattle.oim_value.proofs.digits.skip_leading_zeros.Given as goal

abbrev pub invariant-loop-rest : goal.invariant-loop-rest
invariant-loop-rest l = without_leading l.rest ≡ without_leading l.fn.digits

abbrev pub decreases-loop-rest : goal.decreases-loop-rest
decreases-loop-rest l = length l.rest
