use Rattle.oim_write.proofs.Shared.{[], ◌∷◌, ◌++◌, ap, ◌∙◌, key, string, prefix}
use Rattle.oim_write.proofs.PieceTexts.{behind, part_is}
use Rattle.oim_write.proofs.parts.append_namespace.Goals as goal

pub returns : goal.returns
returns c =
    let name = ap (λ t. c.new-json.result.tokens ++ key t ∷ []) (c.deref.ensures ∙ c.in_ok-prefix.ensures) in
    c.into_inner.ensures.items
    ∙ part_is c.args.text.now.items c.string.new.self.before c.args.later (prefix c.args.table.now c.args.uri.now) (string c.args.uri.now) c.string.new.self.tokens
    (c.in_ok-string.ensures.room.0 ∙ c.in_ok-key.ensures.room.0 ∙ c.new-json.ensures.before ∙ ap (λ v. v.items) c.replace.ensures.value ∙ c.in_ok-append_comma.ensures)
    (behind _ c.in_ok-string.ensures.ok (behind _ (c.in_ok-key.ensures.ok ∙ name) c.new-json.ensures.tokens))
