use Rattle.oim_report.proofs.Shared.{ℕ, ap, ◌∙◌, Fact, map_ok, no_members, member, IsRank}
use Rattle.oim_report.specs.declared.pieces.facts_so_far.FactsSoFar.TheVariants.{Refused}
use Rattle.oim_report.specs.declared.pieces.judgement.Judgement.TheVariants as judged
use Rattle.oim_report.proofs.FactsSoFar.{accepted_more, judged_more, refused_more}
use Rattle.oim_report.proofs.FoundInOrder.{if_ok}
use Rattle.oim_report.proofs.pieces.facts_so_far.add_fact.Goals as goal

pub returns-in_ok-push-in-Ok-clause-accepted : goal.returns-in_ok-push-in-Ok-clause-accepted
returns-in_ok-push-in-Ok-clause-accepted c = λ v begins.
    let s = c.args.reader.now in
    let read = c.in_ok-said.ensures.said v begins in
    let pushed = c.in_ok-push-in-Ok.ensures in
    let fact = c.in-Ok.fact in
    let rank = if_ok _ (fact, c.in-Ok.rank) (λ (f : Fact × ℕ). IsRank s.sheet.concepts f.0.dimensions.concept f.1) c.in-Ok.is c.in_ok-said.ensures.rank in
    record { found = read.found; reads = read.reads; flat = read.flat; is = accepted_more s.sheet s.aliases c.args.key.now read.found fact c.in-Ok.rank c.args.found.now c.push.new.self pushed.identifiers pushed.facts pushed.ranks (read.is ∙ ap (map_ok (λ (f : Fact × ℕ). f.0)) c.in-Ok.is) rank }

pub returns-in_ok-put-in-Err-clause-refused : goal.returns-in_ok-put-in-Err-clause-refused
returns-in_ok-put-in-Err-clause-refused c = λ v begins.
    let s = c.args.reader.now in
    let key = c.args.key.now in
    let read = c.in_ok-said.ensures.said v begins in
    let stored = c.in_ok-put-in-Err.ensures in
    let accepted = c.in_ok-judgements-in-Err.judgements in
    let one = judged_more s.sheet s.aliases key read.found stored.0 (judged.Refused c.in-Err.reason) accepted c.put.new.self stored.1 stored.2 (read.is ∙ ap (map_ok (λ (f : Fact × ℕ). f.0)) c.in-Err.is) in
    record { found = read.found; reads = read.reads; flat = read.flat; is = refused_more s.sheet s.aliases (member key read.found no_members) c.args.found.now accepted (Refused c.put.new.self) (λ ms are. c.in_ok-judgements-in-Err.ensures s.sheet s.aliases ms are) one }
