use Rattle.std.proofs.Common.{◌+◌, ◌-◌, ◌^◌, ◌/◌, ◌<◌, subst, arith}
use Rattle.oim_write.proofs.Ranks.{fewer_digits, width_large, width_small}
use Rattle.oim_write.proofs.labels.width_of.Goals as goal

pub loop-rest-preserved : goal.loop-rest-preserved
loop-rest-preserved c =
    let l = c.loop-rest in
    let more = width_large l.rest (omega arith) in
    let fewer = fewer_digits (40 - l.digits) l.rest (omega arith) l.invariant.small in
    record {
      same = omega (arith, more, l.invariant.same);
      few = omega (arith, fewer.0);
      small = subst (λ room. l.rest / 10 < 10 ^ room) {x = 40 - l.digits - 1} {y = 40 - (l.digits + 1)} (omega arith) fewer.1;
    }

pub returns : goal.returns
returns c = omega (arith, width_small c.loop-rest.rest (omega arith), c.loop-rest.invariant.same)
