use Rattle.fact_base.proofs.Shared.{◌≡◌, Some, sym, ap, ◌∙◌, slice_get, option_map, Entry}
use Rattle.oim_names.specs.QName.{QName}
use Rattle.fact_base.proofs.Walks.{told_uri}
use Rattle.fact_base.proofs.rows.Rows.has_uri.Goals as goal

pub returns-in-Some : goal.returns-in-Some
returns-in-Some c =
    let es = c.args.self.now.entries.now in
    let e : Entry = (c.in-Some.dimensions.now, c.in-Some.field-0-1.now) in
    let at : slice_get es c.args.index ≡ Some e = sym c.at.ensures ∙ ap (option_map (λ p. (p.0.now, p.1.now))) c.in-Some.is in
    told_uri es c.args.index e c.uri.result.now c.args.uri.now c.eq.result c.eq.ensures (c.uri.ensures ∙ ap (λ (n : QName). n.uri) c.concept.ensures) at
