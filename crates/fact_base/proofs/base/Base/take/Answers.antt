use Rattle.fact_base.proofs.Shared.{◌≡◌, [], ◌∷◌, sym, ap, ◌∙◌, body, union, Contents, facts_of_entries}
use Rattle.fact_base.proofs.base.Base.take.Goals as goal
use Rattle.fact_base.proofs.Stored.{union_is, Leaves, take_leaves, all_moved}

leaves : (c : goal.After-replace) → Leaves c.self.inside.sheet.now c.absorb.new.self c.replace.new.references (union (record { facts = facts_of_entries c.self.inside.entries; references = c.self.inside.references }) (body (c.args.report.now.document ∷ [])))
leaves c =
    take_leaves c.self.inside.sheet.now c.args.report.now.sheet c.self.inside.entries c.in_ok-entries.entries c.absorb.new.self c.self.inside.references c.taxonomy.result.now c.replace.new.references c.in_ok-facts.facts.items c.args.report.now.document
    c.self.invariant (c.requires ∙ sym (ap (λ (b : Contents). b.sheet) c.self.view_is)) c.known.ensures.facts c.known.ensures.references (c.in_ok-facts.ensures.copies ∙ c.facts.ensures) (all_moved c.in_ok-facts.facts.items c.in_order.result.items c.in_ok-entries.entries c.in_order.ensures.moved c.in_ok-entries.ensures)
    ((c.in_ok-absorb.ensures).ok ∙ union_is c.self.inside.entries c.in_ok-entries.entries) c.taxonomy.ensures (c.replace.ensures ∙ c.in_ok-references.ensures)

pub invariant_of-self-2 : goal.invariant_of-self-2
invariant_of-self-2 c = (leaves c).stored

pub returns-clause-ok : goal.returns-clause-ok
returns-clause-ok c =
    let sheet : c.self.inside.sheet.now ≡ c.args.self.now.sheet = ap (λ (b : Contents). b.sheet) c.self.view_is in
    let all = (leaves c).body ∙ ap (λ b. union b (body (c.args.report.now.document ∷ []))) (ap (λ (b : Contents). b.body) c.self.view_is) in
    λ i. record { sheet = sheet i; body = all i }
