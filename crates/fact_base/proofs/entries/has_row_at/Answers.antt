use Rattle.fact_base.proofs.Shared.{◌≡◌, slice_get, Some, sym, ap, subst, ◌∙◌, Contains, IfSome, All, option_copied, option_map, value_at, dimensions_cmp, Entry}
use Rattle.fact_base.proofs.EntryFacts.{HasRow, row_there}
use Rattle.fact_base.proofs.Stored.{value_at_is}
use Rattle.fact_base.proofs.entries.has_row_at.Goals as goal

pub returns-in-Some-get_near : goal.returns-in-Some-get_near
returns-in-Some-get_near c =
    let es = c.args.entries.now in
    let e : Entry = (c.in-Some.dimensions.now, c.in-Some.field-0-1.now) in
    let at : slice_get c.args.others.now c.args.index ≡ Some e = sym c.at.ensures ∙ ap (option_map (λ p. (p.0.now, p.1.now))) c.in-Some.is in
    let kept = c.in-Some-get_near.field-0.now in
    let found : value_at dimensions_cmp e.0 es ≡ Some kept = sym (value_at_is e.0 es) ∙ sym c.get_near.ensures ∙ ap option_copied c.in-Some-get_near.is in
    λ h. subst (λ row. IfSome row (HasRow es)) (sym at)
    (row_there es e kept c.requires found
    (subst (λ vs. All (Contains vs) e.1.0) c.as_slice.ensures.items (subst (All (Contains c.as_slice.result.now)) c.as_slice-in-Some-get_near.ensures.items (c.has_all.ensures h))))
