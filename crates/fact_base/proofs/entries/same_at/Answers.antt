use Rattle.fact_base.proofs.Shared.{◌≡◌, slice_get, Some, sym, ap, ◌∙◌, option_map, Entry, equal_dimensions}
use Rattle.fact_base.proofs.entries.same_at.Goals as goal
use Rattle.fact_base.proofs.Walks.{rows_alike, rows_unlike}

pub returns-then-eq : goal.returns-then-eq
returns-then-eq c =
    let e : Entry = (c.in-Some-Some.dimensions.now, c.in-Some-Some.field-0-1-0.now) in
    let d : Entry = (c.in-Some-Some.others.now, c.in-Some-Some.field-0-1-1.now) in
    let first : slice_get c.args.one.now c.args.index ≡ Some e = sym c.at.ensures ∙ ap (option_map (λ p. (p.0.now, p.1.now))) c.in-Some-Some.is-0 in
    let second : slice_get c.args.other.now c.args.index ≡ Some d = sym c.at-2.ensures ∙ ap (option_map (λ p. (p.0.now, p.1.now))) c.in-Some-Some.is-1 in
    rows_alike c.args.one.now c.args.other.now c.args.index e d c.as_slice.result.now c.as_slice-then-eq.result.now c.eq-then-eq.result first second c.as_slice.ensures.items c.as_slice-then-eq.ensures.items c.eq-then-eq.ensures (equal_dimensions e.0 d.0 (sym c.eq.ensures ∙ c.if-eq.true))

pub returns-else-eq : goal.returns-else-eq
returns-else-eq c =
    let e : Entry = (c.in-Some-Some.dimensions.now, c.in-Some-Some.field-0-1-0.now) in
    let d : Entry = (c.in-Some-Some.others.now, c.in-Some-Some.field-0-1-1.now) in
    let first : slice_get c.args.one.now c.args.index ≡ Some e = sym c.at.ensures ∙ ap (option_map (λ p. (p.0.now, p.1.now))) c.in-Some-Some.is-0 in
    let second : slice_get c.args.other.now c.args.index ≡ Some d = sym c.at-2.ensures ∙ ap (option_map (λ p. (p.0.now, p.1.now))) c.in-Some-Some.is-1 in
    rows_unlike c.args.one.now c.args.other.now c.args.index e d c.eq.result first second c.eq.ensures c.if-eq.false
