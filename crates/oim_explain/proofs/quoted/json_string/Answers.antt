use Rattle.std.proofs.Common.{[], ◌∷◌, ◌++◌, ap, ◌∙◌}
use Rattle.json.specs.Print.{print}
use Rattle.json.specs.Token.{string}
use Rattle.oim_explain.proofs.Quoting.{printed_string}
use Rattle.oim_explain.proofs.quoted.json_string.Goals as goal

pub written_text-requires : goal.written_text-requires
written_text-requires c = c.in_ok-string.ensures.room.0 ∙ c.new-writer.ensures.before ∙ c.new.ensures.items

pub returns : goal.returns
returns c =
    let text = c.args.text.now in
    c.written_text.ensures ∙ ap print (c.in_ok-string.ensures.ok ∙ ap (λ ts. ts ++ string text ∷ []) c.new-writer.ensures.tokens) ∙ printed_string text
