use Rattle.oim_merge.proofs.consolidation.Consolidation.new.Goals as goal

pub returns : goal.returns
returns c = λ i. record { sheet = (c.new-2.ensures i).sheet; body = (c.new-2.ensures i).body; refusals = c.new-3.ensures i; reports = 0 }
