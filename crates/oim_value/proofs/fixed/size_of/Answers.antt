use Rattle.oim_value.proofs.Shared.{arith, ints, UNIT_PLACES}
use Rattle.oim_value.proofs.Units.{size_bound, ten_to}
use Rattle.oim_value.proofs.fixed.size_of.Goals as goal

pub pow-requires : goal.pow-requires
pow-requires c = omega (arith, ten_to c.args.zeros UNIT_PLACES c.requires.zeros)

pub overflow_mul-result : goal.overflow_mul-result
overflow_mul-result c = rw (c.from.ensures, c.pow.ensures) (omega (arith, size_bound c.args.number c.args.zeros c.requires.few c.requires.zeros))

pub overflow_cast-result : goal.overflow_cast-result
overflow_cast-result c = rw (c.from.ensures, c.pow.ensures) (omega (arith, ints, size_bound c.args.number c.args.zeros c.requires.few c.requires.zeros))

pub returns-clause-value : goal.returns-clause-value
returns-clause-value c = rw (c.from.ensures, c.pow.ensures) (omega (arith, ints, size_bound c.args.number c.args.zeros c.requires.few c.requires.zeros))

pub returns-clause-bound : goal.returns-clause-bound
returns-clause-bound c = omega (arith, size_bound c.args.number c.args.zeros c.requires.few c.requires.zeros)
