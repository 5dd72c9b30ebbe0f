use Rattle.oim_value.proofs.PlainLaws.{fitting_is_writable, short_is_writable}
use Rattle.oim_value.proofs.laws.units_are_writable.Goals as goal

pub returns : goal.returns
returns c = record { fitting = fitting_is_writable; short = short_is_writable }
