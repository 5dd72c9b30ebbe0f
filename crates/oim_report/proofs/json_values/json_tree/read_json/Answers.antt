use Rattle.oim_report.proofs.Shared.{rules, ◌≡◌, Some, None, subst, ◌∙◌, inr, refl, view, json_text}
use Rattle.oim_report.proofs.Texts.{passes, fails}
use Rattle.oim_report.proofs.json_values.json_tree.read_json.Goals as goal

pub returns-in-Ok-clause-value : goal.returns-in-Ok-clause-value
returns-in-Ok-clause-value c =
    let both = c.in-Ok.ensures.ok in
    subst (λ text. json_text text ≡ Some (view c.in-Ok.value)) c.after_mark.ensures (passes _ _ both.0 ∙ both.1)

pub returns-in-Err-2-clause-refused : goal.returns-in-Err-2-clause-refused
returns-in-Err-2-clause-refused c = inr (refl, subst (λ text. json_text text ≡ None) c.after_mark.ensures (fails _ _ (c.in-Err-2.ensures.err (search rules))))
