use Rattle.oim_write.proofs.Shared.{◌≡◌, ◌+◌, ◌-◌, ◌^◌, ◌<◌, width}
use Rattle.oim_write.proofs.labels.width_of.Given as goal

-- `digits` - 1 digits were removed from the number so far; a u128 has at most 39 digits
abbrev pub invariant-loop-rest : goal.invariant-loop-rest
invariant-loop-rest l = record {
  same : l.digits + width l.rest ≡ 1 + width l.number;
  few : l.digits < 40;
  small : l.rest < 10 ^ (40 - l.digits);
}

abbrev pub decreases-loop-rest : goal.decreases-loop-rest
decreases-loop-rest l = l.rest
