use Rattle.fact_base.proofs.Shared.{◌≡◌, refl, sym, ap, ◌∙◌, rows_of, true≢false, Body, Contents, pointwise, bytes_eq}
use Rattle.fact_base.proofs.base.Base.same_as.Goals as goal
use Rattle.fact_base.proofs.Walks.{equal_texts, rows_stored, same_facts}

pub returns-then-same_rows : goal.returns-then-same_rows
returns-then-same_rows c =
    let mine = ap (λ (b : Contents). b.body.facts) c.self.view_is in
    let theirs = ap (λ (b : Contents). b.body.facts) c.other.view_is in
    let facts : c.args.self.now.body.facts ≡ c.args.other.now.body.facts = sym mine ∙ same_facts c.self.inside.entries c.other.inside.entries (c.same_rows.ensures.0 c.if-same_rows.true) ∙ theirs in (
      λ h.
          let texts : c.args.self.now.body.references ≡ c.args.other.now.body.references = sym c.taxonomy.ensures ∙ (equal_texts c.taxonomy.result.now c.taxonomy-then-same_rows.result.now).0 (sym c.eq.ensures ∙ h) ∙ c.taxonomy-then-same_rows.ensures in
          λ i. record { facts = facts i; references = texts i },
      λ h.
          let texts = c.taxonomy.ensures ∙ ap (λ (b : Body). b.references) h ∙ sym c.taxonomy-then-same_rows.ensures in
          c.eq.ensures ∙ ap (λ xs. pointwise bytes_eq xs c.taxonomy-then-same_rows.result.now) texts ∙ (equal_texts c.taxonomy-then-same_rows.result.now c.taxonomy-then-same_rows.result.now).1 refl,
    )

pub returns-else-same_rows : goal.returns-else-same_rows
returns-else-same_rows c = (
  λ h. absurd (true≢false (sym h ∙ c.if-same_rows.false)),
  λ h. c.same_rows.ensures.1
      (sym (rows_stored c.self.inside.sheet.now c.self.inside.entries c.self.inside.references c.self.invariant)
      ∙ ap (λ (b : Contents). rows_of b.body.facts) c.self.view_is
      ∙ ap (λ (b : Body). rows_of b.facts) h
      ∙ sym (ap (λ (b : Contents). rows_of b.body.facts) c.other.view_is)
      ∙ rows_stored c.other.inside.sheet.now c.other.inside.entries c.other.inside.references c.other.invariant),
)
