use Rattle.oim_write.proofs.Shared.{◌≢◌, [], All, map, sym, ap, subst, ◌∙◌, arith, take_all, bound, is_refused_binding, text_cmp, IsNamespace, IsSet, bindings_of, prefix}
use Rattle.oim_write.proofs.Namespaces.{uris_are_namespaces}
use Rattle.oim_write.proofs.SpelledFacts.{bound_more, prefix_allowed}
use Rattle.oim_write.proofs.prefix_table.prefixes.Goals as goal

pub bind-requires : goal.bind-requires
bind-requires c =
    let us = c.uris-uri-items.result.now in
    let rises = subst (IsSet text_cmp) (c.table.view_is ∙ sym c.uris-uri-items.ensures) c.table.invariant.rises in
    let facts = c.args.base.now.body in
    let all : All IsNamespace us = subst (All IsNamespace) (sym (c.uris-uri-items.ensures ∙ c.in_ok-table.ensures)) (uris_are_namespaces _ facts c.sheet-sheet.ensures.fits) in
    let filled = subst (λ u. u ≢ []) (sym c.uri-item.is) (all c.loop-uri.uri-index c.uri-item.result (omega arith)).filled in
    (λ i. is_refused_binding (c.loop-uri.invariant i) (prefix (sym c.uris-uri-items.ensures i) (c.as_str.ensures.bytes i)) (c.as_str.ensures.bytes i))
    ∙ prefix_allowed us c.loop-uri.uri-index c.uri-item.result rises (omega arith) c.uri-item.is filled

pub loop-uri-preserved : goal.loop-uri-preserved
loop-uri-preserved c =
    let us = c.uris-uri-items.result.now in
    let rises = subst (IsSet text_cmp) (c.table.view_is ∙ sym c.uris-uri-items.ensures) c.table.invariant.rises in
    c.in_ok-bind.ensures
    ∙ (λ i. bound (c.loop-uri.invariant i) (prefix (sym c.uris-uri-items.ensures i) (c.as_str.ensures.bytes i)) (c.as_str.ensures.bytes i))
    ∙ bound_more us c.loop-uri.uri-index c.uri-item.result rises (omega arith) c.uri-item.is

pub returns : goal.returns
returns c =
    let us = c.uris-uri-items.result.now in
    c.loop-uri.invariant
    ∙ ap (map (λ u. record { prefix = prefix us u; uri = u })) (take_all c.loop-uri.uri-index us (omega arith))
    ∙ ap bindings_of (c.uris-uri-items.ensures ∙ c.in_ok-table.ensures)
