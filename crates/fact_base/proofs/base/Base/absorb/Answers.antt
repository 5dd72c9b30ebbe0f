use Rattle.fact_base.proofs.Shared.{◌≡◌, sym, ap, ◌∙◌, union, Contents, facts_of_entries}
use Rattle.fact_base.proofs.base.Base.absorb.Goals as goal
use Rattle.fact_base.proofs.Stored.{union_is, Leaves, join_leaves}

pub invariant_of-self-2 : goal.invariant_of-self-2
invariant_of-self-2 c =
    let leaves : Leaves c.self.inside.sheet.now c.absorb.new.self c.replace.new.references (union (record { facts = facts_of_entries c.self.inside.entries; references = c.self.inside.references }) (record { facts = facts_of_entries c.other.inside.entries; references = c.other.inside.references })) =
    join_leaves c.self.inside.sheet.now c.other.inside.sheet.now c.self.inside.entries c.other.inside.entries c.absorb.new.self c.self.inside.references c.other.inside.references c.taxonomy.result.now c.replace.new.references
    c.self.invariant c.other.invariant (ap (λ (b : Contents). b.sheet) c.other.view_is ∙ c.requires ∙ sym (ap (λ (b : Contents). b.sheet) c.self.view_is))
    ((c.in_ok-absorb.ensures).ok ∙ union_is c.self.inside.entries c.other.inside.entries) (c.taxonomy.ensures ∙ sym (ap (λ (b : Contents). b.body.references) c.other.view_is)) (c.replace.ensures ∙ c.in_ok-references.ensures) in
    leaves.stored

pub returns-clause-ok : goal.returns-clause-ok
returns-clause-ok c =
    let leaves : Leaves c.self.inside.sheet.now c.absorb.new.self c.replace.new.references (union (record { facts = facts_of_entries c.self.inside.entries; references = c.self.inside.references }) (record { facts = facts_of_entries c.other.inside.entries; references = c.other.inside.references })) =
    join_leaves c.self.inside.sheet.now c.other.inside.sheet.now c.self.inside.entries c.other.inside.entries c.absorb.new.self c.self.inside.references c.other.inside.references c.taxonomy.result.now c.replace.new.references
    c.self.invariant c.other.invariant (ap (λ (b : Contents). b.sheet) c.other.view_is ∙ c.requires ∙ sym (ap (λ (b : Contents). b.sheet) c.self.view_is))
    ((c.in_ok-absorb.ensures).ok ∙ union_is c.self.inside.entries c.other.inside.entries) (c.taxonomy.ensures ∙ sym (ap (λ (b : Contents). b.body.references) c.other.view_is)) (c.replace.ensures ∙ c.in_ok-references.ensures) in
    let sheet : c.self.inside.sheet.now ≡ c.args.self.now.sheet = ap (λ (b : Contents). b.sheet) c.self.view_is in
    let all = leaves.body ∙ (λ i. union (ap (λ (b : Contents). b.body) c.self.view_is i) (ap (λ (b : Contents). b.body) c.other.view_is i)) in
    λ i. record { sheet = sheet i; body = all i }
