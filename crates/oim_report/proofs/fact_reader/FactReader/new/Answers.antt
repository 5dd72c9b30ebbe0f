use Rattle.oim_report.proofs.fact_reader.FactReader.new.Goals as goal

pub invariant_of-result : goal.invariant_of-result
invariant_of-result c = c.new-2.ensures c.args.sheet.now c.new.result
