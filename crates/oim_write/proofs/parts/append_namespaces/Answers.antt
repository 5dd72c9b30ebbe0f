use Rattle.oim_write.proofs.Shared.{◌≡◌, ◌+◌, ◌∷◌, ◌++◌, drop, true, sym, ap, ◌∙◌, arith, drop_more, string, namespace_members, part, parts, prefix}
use Rattle.oim_write.proofs.PieceTexts.{next_part}
use Rattle.oim_write.proofs.parts.append_namespaces.Goals as goal

pub loop-uri-preserved : goal.loop-uri-preserved
loop-uri-preserved c =
    let l = c.loop-uri in
    let table = c.args.table.now in
    let all = c.uris-uri-items.result.now in
    let uri = c.uri-item.result in
    let rest = drop (l.uri-index + 1) all in
    let here : drop l.uri-index all ≡ uri ∷ rest = drop_more all l.uri-index uri (omega arith) ∙ ap (λ u. u ∷ rest) (sym c.uri-item.is) in
    next_part l.text.items _ _ (part l.later (prefix table uri) (string uri)) (parts true (namespace_members table rest))
    (c.in_ok-append_namespace.ensures ∙ ap (λ u. l.text.items ++ part l.later (prefix table u) (string u)) c.as_str.ensures.bytes)
    (ap (λ us. l.text.items ++ parts l.later (namespace_members table us)) (sym here) ∙ l.invariant)
