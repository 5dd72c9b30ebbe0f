use Rattle.oim_write.proofs.Shared.{[], ◌∷◌, ◌++◌, ap, ◌∙◌, string}
use Rattle.json.specs.Token as token
use Rattle.oim_write.proofs.PieceTexts.{behind, item_is}
use Rattle.oim_write.proofs.parts.append_reference.Goals as goal

pub returns : goal.returns
returns c =
    let written = ap (λ t. c.new-json.result.tokens ++ token.string t ∷ []) c.as_str.ensures.bytes in
    c.into_inner.ensures.items
    ∙ item_is c.args.text.now.items c.string.new.self.before c.args.later (string c.args.reference.now) c.string.new.self.tokens
    (c.in_ok-string.ensures.room.0 ∙ c.new-json.ensures.before ∙ ap (λ v. v.items) c.replace.ensures.value ∙ c.in_ok-append_comma.ensures)
    (behind _ (c.in_ok-string.ensures.ok ∙ written) c.new-json.ensures.tokens)
