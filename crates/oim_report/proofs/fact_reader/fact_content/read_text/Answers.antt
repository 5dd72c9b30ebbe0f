use Rattle.std.proofs.Common.{sym}
use Rattle.oim_report.proofs.UnitSays.{number_said}
use Rattle.oim_report.proofs.fact_reader.fact_content.read_text.Goals as goal

pub returns-in_ok-read_fixed-in-Numeric-clause-said : goal.returns-in_ok-read_fixed-in-Numeric-clause-said
returns-in_ok-read_fixed-in-Numeric-clause-said c =
    number_said c.args.aliases.now c.args.kind c.args.text.now _ c.args.places c.in-Numeric.is c.in_ok-read_fixed-in-Numeric.ensures.denoted (sym c.in_ok-read_fixed-in-Numeric.ensures.refused)
