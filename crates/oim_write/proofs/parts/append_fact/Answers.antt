use Rattle.oim_write.proofs.Shared.{[], ◌∷◌, ◌++◌, ◌+◌, nat_lt, ap, ◌∙◌, key, ordered_fact, padded, name_text}
use Rattle.oim_write.proofs.PieceTexts.{behind, part_is}
use Rattle.oim_write.proofs.parts.append_fact.Goals as goal

pub returns : goal.returns
returns c =
    let labels = c.args.labels.now in
    let name = ap (λ t. c.new-json.result.tokens ++ key t ∷ []) (c.as_str.ensures.value ∙ (c.in_ok-push_label.ensures ∙ ap (λ t. t ++ 102 ∷ padded labels.digits (c.args.before + 1)) c.clear.ensures.bytes)) in
    c.into_inner.ensures.items
    ∙ part_is c.args.text.now.items c.write_fact.new.json.before (nat_lt 0 c.args.before) (102 ∷ padded labels.digits (c.args.before + 1))
    (ordered_fact (name_text labels.table.now) (record { dimensions = c.args.dimensions.now; value = c.args.value.now })) c.write_fact.new.json.tokens
    (c.in_ok-write_fact.ensures.before ∙ c.in_ok-key.ensures.room.0 ∙ c.new-json.ensures.before ∙ ap (λ v. v.items) c.replace.ensures.value ∙ c.in_ok-append_comma.ensures)
    (behind _ c.in_ok-write_fact.ensures.tokens (behind _ (c.in_ok-key.ensures.ok ∙ name) c.new-json.ensures.tokens))
