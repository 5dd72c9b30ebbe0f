use Rattle.oim_report.proofs.FactsSoFar.{judged_more}
use Rattle.oim_report.proofs.pieces.facts_so_far.add_judgement.Goals as goal

pub returns-clause-adds : goal.returns-clause-adds
returns-clause-adds c = λ v begins.
    let s = c.args.reader.now in
    let judged = c.in_ok-judgement.ensures.judged v begins in
    let stored = c.in_ok-put.ensures in
    record { found = judged.found; reads = judged.reads; flat = judged.flat; is = judged_more s.sheet s.aliases c.args.key.now judged.found stored.0 c.in_ok-judgement.judgement c.args.judgements.now c.put.new.self stored.1 stored.2 judged.is }
