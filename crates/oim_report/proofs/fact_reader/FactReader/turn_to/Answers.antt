use Rattle.oim_report.proofs.fact_reader.FactReader.turn_to.Goals as goal

pub invariant_of-self : goal.invariant_of-self
invariant_of-self c = c.new.ensures c.self.inside.sheet.now c.args.aliases
