use Rattle.std.proofs.Common.{◌≡◌, Some, None, subst, ◌∙◌}
use Rattle.std.proofs.lemmas.Result.{IfErr-weaker, IfOk-weaker}
use Rattle.serde_json.specs.View.{view}
use Rattle.oim_report.specs.Json.{json_text}
use Rattle.oim_report.proofs.Texts.{passes, fails}
use Rattle.oim_explain.proofs.explained.tree_of.Goals as goal

pub returns-clause-ok : goal.returns-clause-ok
returns-clause-ok c =
    IfOk-weaker c.from_slice.result _ _ (λ v both. subst (λ text. json_text text ≡ Some (view v)) c.after_mark.ensures (passes _ _ both.0 ∙ both.1)) c.from_slice.ensures.ok

pub returns-clause-err : goal.returns-clause-err
returns-clause-err c =
    IfErr-weaker c.from_slice.result _ _ (λ e none memory. subst (λ text. json_text text ≡ None) c.after_mark.ensures (fails _ _ (none memory))) c.from_slice.ensures.err
