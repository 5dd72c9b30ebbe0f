use Rattle.std.proofs.Common.{[], ◌∷◌, subst, sym}
use Rattle.std.specs.Prelude.{OnOk, option_map}
use Rattle.json.specs.Token.{key}
use Rattle.oim_explain.specs.Lines.{text_token}
use Rattle.oim_explain.specs.code.Added.{AddsTokens}
use Rattle.oim_explain.proofs.Appended.{tokens_last, tokens_one}
use Rattle.oim_explain.proofs.lines.put_text.Goals as goal

pub returns-in-Some : goal.returns-in-Some
returns-in-Some c =
    subst (λ text. OnOk c.string.result (AddsTokens c.args.writer.now c.string.new.self (key c.args.name.now ∷ text_token (option_map (λ t. t.now) text) ∷ []))) (sym c.in-Some.is)
    (tokens_last c.string.result (tokens_one c.in_ok-key.ensures) c.string.ensures)

pub returns-in-None : goal.returns-in-None
returns-in-None c =
    subst (λ text. OnOk c.null.result (AddsTokens c.args.writer.now c.null.new.self (key c.args.name.now ∷ text_token (option_map (λ t. t.now) text) ∷ []))) (sym c.in-None.is)
    (tokens_last c.null.result (tokens_one c.in_ok-key.ensures) c.null.ensures)
