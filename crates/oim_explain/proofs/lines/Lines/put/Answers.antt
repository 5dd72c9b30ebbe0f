use Rattle.std.proofs.Common.{[], ◌∷◌, ◌++◌, ap, ◌∙◌, string_bytes}
use Rattle.std.proofs.lemmas.Result.{on_ok_weaker}
use Rattle.oim_explain.specs.Escaped.{escaped}
use Rattle.oim_explain.specs.code.Added.{of_fault}
use Rattle.oim_explain.proofs.Appended.{adds_line}
use Rattle.oim_explain.proofs.lines.Lines.put.Goals as goal

pub returns : goal.returns
returns c =
    let old = c.args.self.now in
    on_ok_weaker c.write.result
    (λ appended.
    adds_line old c.write.new.self c.saturating_add.result (of_fault c.args.fault.now) (string_bytes c.in_ok-line.line) c.saturating_add.ensures
    (record { sentence = c.args.fault.now.sentence.now; says = c.requires; is = c.in_ok-line.ensures })
    (appended ∙ ap (λ t. string_bytes old.explained.text ++ (escaped t ++ 10 ∷ [])) c.as_str.ensures.value))
    c.write.ensures.bytes
