use Rattle.oim_report.proofs.Shared.{IfSome, subst, sym, IsOneMore}
use Rattle.oim_report.specs.declared.pieces.facts_so_far.FactsSoFar.TheVariants.{Accepted, Refused}
use Rattle.oim_report.proofs.pieces.facts_so_far.FactsSoFar.add.Goals as goal

pub returns-in-Some-clause-adds : goal.returns-in-Some-clause-adds
returns-in-Some-clause-adds c = λ v begins.
    let s = c.args.reader.now in
    let key = c.args.key.now in
    let one = subst (λ o. IfSome o (λ all. IsOneMore s.sheet s.aliases key v (Accepted c.in-Accepted.found) (Refused all))) c.in-Some.is (c.in_ok-refused-in-Accepted.ensures.refused v begins) in
    subst (λ f. IsOneMore s.sheet s.aliases key v f (Refused c.in-Some.judgements)) (sym c.in-Accepted.is) one
