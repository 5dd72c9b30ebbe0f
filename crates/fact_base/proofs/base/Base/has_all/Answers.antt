use Rattle.fact_base.proofs.Shared.{◌≡◌, sym, ap, subst, ◌∙◌, Contains, All, Body, union, Contents, facts_of_entries}
use Rattle.fact_base.proofs.BuilderLaws.{union_itself, union_of_known}
use Rattle.fact_base.proofs.Stored.{stored_fits}
use Rattle.fact_base.proofs.base.Base.has_all.Goals as goal

pub returns-then-has_all_rows : goal.returns-then-has_all_rows
returns-then-has_all_rows c =
    let mine = c.self.inside in
    let theirs = c.other.inside in
    let fits = stored_fits mine.sheet.now mine.entries mine.references c.self.invariant in
    let body : Body = record { facts = facts_of_entries mine.entries; references = mine.references } in
    let more : Body = record { facts = facts_of_entries theirs.entries; references = theirs.references } in
    let texts : c.taxonomy.result.now ≡ mine.references = c.taxonomy.ensures ∙ sym (ap (λ (b : Contents). b.body.references) c.self.view_is) in
    let others : c.taxonomy-then-has_all_rows.result.now ≡ theirs.references = c.taxonomy-then-has_all_rows.ensures ∙ sym (ap (λ (b : Contents). b.body.references) c.other.view_is) in
    λ h.
    let references : All (Contains mine.references) theirs.references =
    subst (λ rs. All (Contains rs) theirs.references) texts (subst (All (Contains c.taxonomy.result.now)) others (c.has_all.ensures h)) in
    subst (λ (b : Contents). b.body ≡ union b.body c.args.other.now.body) c.self.view_is
    (subst (λ (b : Contents). body ≡ union body b.body) c.other.view_is
    (union_of_known body more fits.rises (c.has_all_rows.ensures c.if-has_all_rows.true) references))

pub returns : goal.returns
returns c =
    let mine = c.self.inside in
    let fits = stored_fits mine.sheet.now mine.entries mine.references c.self.invariant in
    λ h.
    subst (λ (b : Contents). b.body ≡ union b.body b.body) c.self.view_is (union_itself (record { facts = facts_of_entries mine.entries; references = mine.references }) fits.rises)
    ∙ ap (union c.args.self.now.body) (c.same_as.ensures.0 h)
