use Rattle.oim_write.proofs.Shared.{◌≡◌, ℕ, ◌+◌, ◌<◌, [], ◌∷◌, ◌++◌, length, map, get_or, take, string_bytes, sym, ap, ◌∙◌, arith, map-append, take_more, text_cmp_total, padded, prefix}
use Rattle.oim_write.proofs.Ranks.{rank_at}
use Rattle.oim_write.proofs.prefix_table.prefixes_of.Goals as goal

other_side : (n : ℕ) → 1 + n ≡ n + 1
other_side n = omega arith

pub loop-index-preserved : goal.loop-index-preserved
loop-index-preserved c =
    let us = c.args.uris.now in
    let l = c.loop-index in
    let within : l.index < length us = c.loop-index-test.true in
    let uri = get_or us l.index [] in
    let own = c.push_label.new.text in
    let spelled : string_bytes own ≡ prefix us uri
    = c.in_ok-push_label.ensures ∙ ap (λ t. t ++ 110 ∷ padded c.args.digits (1 + l.index)) c.in_ok-prefix.ensures.bytes ∙ (λ i. 110 ∷ padded (c.requires.digits i) ((other_side l.index ∙ sym (rank_at text_cmp_total us l.index [] c.requires.rises within)) i)) in
    ap (map string_bytes) c.in_ok-push.ensures.items
    ∙ map-append string_bytes l.prefixes.items (own ∷ [])
    ∙ (λ i. l.invariant i ++ spelled i ∷ [])
    ∙ sym (map-append (prefix us) (take l.index us) (uri ∷ []))
    ∙ ap (map (prefix us)) (sym (take_more us l.index [] within))
