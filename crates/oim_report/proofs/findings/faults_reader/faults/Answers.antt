use Rattle.oim_report.proofs.Shared.{◌≡◌, [], ◌∷◌, ◌++◌, None, ap, sym, ◌∙◌, option_map_or, NotJson, json, at}
use Rattle.oim_report.specs.declared.place.Place.TheVariants.{Document}
use Rattle.oim_report.specs.Faults.{faults, tree_faults}
use Rattle.oim_report.proofs.DocumentHolds.{nothing_said}
use Rattle.oim_report.proofs.findings.faults_reader.faults.Goals as goal

pub returns-in_ok-push-in-None : goal.returns-in_ok-push-in-None
unfolding faults
returns-in_ok-push-in-None c =
    let found = c.in_ok-tree.ensures in
    let none : json c.args.bytes.now ≡ None = nothing_said c.read_json.result (json c.args.bytes.now) NotJson (sym c.in-None.is ∙ found.0) found.1 c.read_json.ensures.refused in
    c.in_ok-push-in-None.ensures.items
    ∙ (λ i. c.new-refusals.ensures.items i ++ c.from.ensures i ∷ [])
    ∙ ap (λ o. option_map_or (tree_faults c.args.sheet.now) o (at Document NotJson ∷ [])) (sym none)
