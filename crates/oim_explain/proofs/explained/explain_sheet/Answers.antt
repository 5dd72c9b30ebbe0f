use Rattle.std.proofs.Common.{[], ◌∷◌, ◌++◌, ap, ◌∙◌, string_bytes}
use Rattle.std.proofs.lemmas.Result.{IfOk-weaker}
use Rattle.oim_explain.specs.Escaped.{escaped}
use Rattle.oim_explain.proofs.explained.explain_sheet.Goals as goal

pub returns : goal.returns
returns c =
    IfOk-weaker c.format-2.result _ _
    (λ text is. (string_bytes c.in_ok-sentence.sentence, is ∙ ap (λ t. escaped t ++ 10 ∷ []) (c.as_str.ensures.value ∙ c.in_ok-line.ensures.ok))) c.format-2.ensures.ok
