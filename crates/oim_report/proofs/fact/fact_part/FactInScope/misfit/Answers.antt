use Rattle.oim_report.proofs.Shared.{◌≡◌, [], sym, ap, ◌∙◌, option_map, codes, IfOk-weaker, option_or, DimensionValue, view, members_view, entries, members, object_at, defined_members}
use Rattle.oim_report.specs.Holds.{holds, holds_with}
use Rattle.oim_report.specs.Shown.{beside_first, fact_shown, repeated, seen, shown_with, when}
use Rattle.oim_report.proofs.ShownFaults.{misfit_shown}
use Rattle.oim_report.proofs.fact.fact_part.FactInScope.misfit.Goals as goal

pub returns-in-Some-misfit_in : goal.returns-in-Some-misfit_in
unfolding holds fact_shown
returns-in-Some-misfit_in c =
    let sheet = c.args.self.now.sheet.now in
    let bs = c.args.self.now.aliases.now in
    let fact = view c.args.self.now.object.now in
    let ms = members_view c.in-Some.dimensions.now.entries in
    let dimensions : members (object_at (codes "dimensions") fact) ≡ ms = ap members (sym c.object_at.ensures ∙ ap (option_map (λ m. members_view m.now.entries)) c.in-Some.is) in
    let two = option_map (λ m. beside_first bs (entries ms) m.0) (repeated bs [] (defined_members ms)) in
    ap (λ o. option_or o two) (ap (option_map seen) (sym c.in-Some-misfit_in.is) ∙ c.misfit_in.ensures)
    ∙ misfit_shown sheet bs ms
    ∙ ap (λ ms. when (holds_with sheet bs fact ms DimensionValue) (shown_with sheet bs fact ms DimensionValue)) (sym dimensions)

pub returns : goal.returns
unfolding holds fact_shown
returns c =
    let sheet = c.args.self.now.sheet.now in
    let bs = c.args.self.now.aliases.now in
    let fact = view c.args.self.now.object.now in
    let ms = members_view c.in-Some.dimensions.now.entries in
    let dimensions : members (object_at (codes "dimensions") fact) ≡ ms = ap members (sym c.object_at.ensures ∙ ap (option_map (λ m. members_view m.now.entries)) c.in-Some.is) in
    let two = option_map (λ m. beside_first bs (entries ms) m.0) (repeated bs [] (defined_members ms)) in
    IfOk-weaker c.two_keys.result _ _
    (λ part h.
    h
    ∙ ap (λ o. option_or o two) (ap (option_map seen) (sym c.in_default-misfit_in.is) ∙ c.misfit_in.ensures)
    ∙ misfit_shown sheet bs ms
    ∙ ap (λ ms. when (holds_with sheet bs fact ms DimensionValue) (shown_with sheet bs fact ms DimensionValue)) (sym dimensions))
    c.two_keys.ensures
