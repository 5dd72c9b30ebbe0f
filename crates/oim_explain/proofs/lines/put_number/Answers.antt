use Rattle.std.proofs.Common.{[], ◌∷◌, subst, sym}
use Rattle.std.specs.Prelude.{OnOk}
use Rattle.json.specs.Token.{key}
use Rattle.oim_explain.specs.Lines.{number_token}
use Rattle.oim_explain.specs.code.Added.{AddsTokens}
use Rattle.oim_explain.proofs.Appended.{tokens_last, tokens_one}
use Rattle.oim_explain.proofs.lines.put_number.Goals as goal

pub returns-in-Some : goal.returns-in-Some
returns-in-Some c =
    subst (λ n. OnOk c.u64.result (AddsTokens c.args.writer.now c.u64.new.self (key c.args.name.now ∷ number_token n ∷ []))) (sym c.in-Some.is)
    (tokens_last c.u64.result (tokens_one c.in_ok-key.ensures) c.u64.ensures)

pub returns-in-None : goal.returns-in-None
returns-in-None c =
    subst (λ n. OnOk c.null.result (AddsTokens c.args.writer.now c.null.new.self (key c.args.name.now ∷ number_token n ∷ []))) (sym c.in-None.is)
    (tokens_last c.null.result (tokens_one c.in_ok-key.ensures) c.null.ensures)
