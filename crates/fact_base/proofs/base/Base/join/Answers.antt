use Rattle.fact_base.proofs.Shared.{◌≡◌, sym, ap, ◌∙◌, union, Contents, facts_of_entries}
use Rattle.fact_base.proofs.base.Base.join.Goals as goal
use Rattle.fact_base.proofs.Stored.{union_is, Leaves, join_leaves}

leaves : (c : goal.After-replace) → Leaves c.self.inside.sheet.now c.merge.new.self c.replace.new.references (union (record { facts = facts_of_entries c.self.inside.entries; references = c.self.inside.references }) (record { facts = facts_of_entries c.other.inside.entries; references = c.other.inside.references }))
leaves c =
    join_leaves c.self.inside.sheet.now c.other.inside.sheet.now c.self.inside.entries c.other.inside.entries c.merge.new.self c.self.inside.references c.other.inside.references c.taxonomy.result.now c.replace.new.references
    c.self.invariant c.other.invariant (ap (λ (b : Contents). b.sheet) c.other.view_is ∙ c.requires ∙ sym (ap (λ (b : Contents). b.sheet) c.self.view_is))
    ((c.in_ok-merge.ensures).ok ∙ union_is c.self.inside.entries c.other.inside.entries) (c.taxonomy.ensures ∙ sym (ap (λ (b : Contents). b.body.references) c.other.view_is)) (c.replace.ensures ∙ c.in_ok-references.ensures)

pub invariant_of-self-2 : goal.invariant_of-self-2
invariant_of-self-2 c = (leaves c).stored

pub returns-clause-ok : goal.returns-clause-ok
returns-clause-ok c =
    let sheet : c.self.inside.sheet.now ≡ c.args.self.now.sheet = ap (λ (b : Contents). b.sheet) c.self.view_is in
    let all = (leaves c).body ∙ (λ i. union (ap (λ (b : Contents). b.body) c.self.view_is i) (ap (λ (b : Contents). b.body) c.other.view_is i)) in
    λ i. record { sheet = sheet i; body = all i }
