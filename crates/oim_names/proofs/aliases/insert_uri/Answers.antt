use Rattle.oim_names.proofs.Shared.{Some, string_bytes, cond, ◌∙◌, btree_map_updates_text, get_by_text, bytes_eq}
use Rattle.oim_names.proofs.aliases.insert_uri.Goals as goal

pub returns-clause-ok : goal.returns-clause-ok
returns-clause-ok c = λ p.
    let key = c.in_ok-key.key in
    let known = c.in_ok-known.known in
    btree_map_updates_text (string_bytes key) c.args.uris.now c.insert.new.self (Some known) c.in_ok-insert.ensures.updates p
    ∙ (λ i. cond (bytes_eq (c.in_ok-key.ensures.ok i) p) (Some (c.in_ok-known.ensures i)) (get_by_text c.args.uris.now p))
