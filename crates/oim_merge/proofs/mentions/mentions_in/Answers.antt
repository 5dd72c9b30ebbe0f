use Rattle.oim_merge.proofs.Shared.{◌+◌, ◌∷◌, drop, sym, ap, ◌∙◌, arith, drop_more}
use Rattle.oim_merge.proofs.Traces.{mention_more}
use Rattle.oim_merge.proofs.mentions.mentions_in.Goals as goal

pub loop-i-preserved : goal.loop-i-preserved
loop-i-preserved c =
    let l = c.loop-i in
    let is = c.args.identifiers.now in
    let facts = c.args.facts.now in
    let i = c.index-identifiers-i.result in
    let f = c.index-facts-i.result in
    mention_more c.args.number i _ f _ (drop (l.i + 1) is) (drop l.i is) (drop (l.i + 1) facts) (drop l.i facts) l.mentions.items c.push.new.self.items
    (drop_more is l.i i (omega (arith, c.requires)) ∙ ap (λ x. x ∷ drop (l.i + 1) is) (sym c.index-identifiers-i.is))
    (drop_more facts l.i f (omega arith) ∙ ap (λ x. x ∷ drop (l.i + 1) facts) (sym c.index-facts-i.is))
    c.in_ok-copied.ensures c.in_ok-copied-2.ensures
    c.in_ok-push.ensures.items
    l.invariant
