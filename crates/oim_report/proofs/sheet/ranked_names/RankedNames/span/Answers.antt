use Rattle.oim_report.proofs.Shared.{◌≡◌, Some, None, unwrap_or, option_copied, sym, ap, subst, ◌∙◌, get_by_text, IsSpan}
use Rattle.std.specs.FinMap as map
use Rattle.oim_report.proofs.Ranks.{entries_rising}
use Rattle.oim_report.proofs.sheet.ranked_names.RankedNames.span.Goals as goal

pub returns-in-Some : goal.returns-in-Some
returns-in-Some g c =
    let u = c.args.uri.now in
    let known : get_by_text c.self.inside.spans u ≡ Some c.in-Some.span.now = sym c.get.ensures.value ∙ ap option_copied c.in-Some.is in
    let all = sym (entries_rising c.self.inside.names.items c.self.invariant.0) ∙ ap map.entries c.self.view_is in
    subst (λ es. IsSpan es u c.in-Some.span.now) all (subst (λ r. IsSpan c.self.inside.names.items u (unwrap_or r (0, 0))) known (c.self.invariant.1 u))

pub returns-in-None : goal.returns-in-None
returns-in-None g c =
    let u = c.args.uri.now in
    let none : get_by_text c.self.inside.spans u ≡ None = sym c.get.ensures.value ∙ ap option_copied c.in-None.is in
    let all = sym (entries_rising c.self.inside.names.items c.self.invariant.0) ∙ ap map.entries c.self.view_is in
    subst (λ es. IsSpan es u (0, 0)) all (subst (λ r. IsSpan c.self.inside.names.items u (unwrap_or r (0, 0))) none (c.self.invariant.1 u))
