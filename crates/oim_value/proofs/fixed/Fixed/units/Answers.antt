use Rattle.std.proofs.Common.{arith}
use Rattle.oim_value.proofs.Units.{short_bound}
use Rattle.oim_value.proofs.fixed.Fixed.units.Goals as goal

pub returns-clause-bound : goal.returns-clause-bound
returns-clause-bound c = rw (← c.self.view_is) (omega (arith, short_bound c.self.inside.units c.self.invariant))
