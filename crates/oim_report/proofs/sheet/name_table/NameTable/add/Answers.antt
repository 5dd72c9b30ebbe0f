use Rattle.std.proofs.Common.{◌≡◌, ℕ, List, Bool, true, false, cond, is_some, bytes_eq, option_map, string_bytes, sym, ap, subst, ◌∙◌}
use Rattle.std.specs.Prelude.{None, Some}
use Rattle.std.specs.BTreeMap.{get_by_text}
use Rattle.std.specs.FinMap as map
use Rattle.std.specs.Map.{update}
use Rattle.std.proofs.lemmas.Map.Text.{btree_map_updates_text}
use Rattle.oim_report.specs.code.Groups.{IsGroup}
use Rattle.oim_report.proofs.Grouped.{is_some_kind, kind_at, name, named_after, put_back, put_with}
use Rattle.oim_report.proofs.sheet.name_table.NameTable.add.Goals as goal

pub returns-then-contains_key-clause-known : goal.returns-then-contains_key-clause-known
returns-then-contains_key-clause-known g c =
    let q = c.args.name in
    let group = c.take-group.result in
    sym c.if-contains_key.true
    ∙ c.contains_key.ensures
    ∙ ap (λ l. is_some (get_by_text group l)) c.local.ensures
    ∙ sym (is_some_kind (get_by_text group q.local_part))
    ∙ ap is_some (c.take-group.ensures.kinds q.local_part ∙ ap (λ u. map.get c.args.self.now (name u q.local_part)) c.uri-2.ensures)

pub returns-then-contains_key-clause-names : goal.returns-then-contains_key-clause-names
returns-then-contains_key-clause-names g c =
    let q = c.args.name in
    let old = c.args.self.now in
    let after = c.take-group.new.self in
    let group = c.take-group.result in
    put_back group old after c.set.new.self q.uri
    (λ l. c.take-group.ensures.kinds l ∙ ap (λ u. map.get old (name u l)) c.uri-2.ensures)
    (λ v l. c.take-group.ensures.others v l ∙ ap (λ u. cond (bytes_eq u v) None (map.get old (name v l))) c.uri-2.ensures)
    (λ v l. c.in_ok-set.ensures.ok v l ∙ ap (λ u. cond (bytes_eq u v) (kind_at group l) (map.get after (name v l))) (c.in_ok-uri.ensures.ok ∙ c.uri.ensures))
    ∙ ap (λ b. cond b old (map.insert old q c.args.kind)) (returns-then-contains_key-clause-known g c)

pub returns-clause-known : goal.returns-clause-known
returns-clause-known g c =
    let q = c.args.name in
    let group = c.take-group.result in
    sym c.if-contains_key.false
    ∙ c.contains_key.ensures
    ∙ ap (λ l. is_some (get_by_text group l)) c.local.ensures
    ∙ sym (is_some_kind (get_by_text group q.local_part))
    ∙ ap is_some (c.take-group.ensures.kinds q.local_part ∙ ap (λ u. map.get c.args.self.now (name u q.local_part)) c.uri-2.ensures)

pub returns-clause-names : goal.returns-clause-names
returns-clause-names g c =
    let q = c.args.name in
    let old = c.args.self.now in
    let after = c.take-group.new.self in
    let group = c.take-group.result in
    let more = c.insert.new.self in
    put_with group old after c.set-2.new.self q.uri
    (λ l. c.take-group.ensures.kinds l ∙ ap (λ u. map.get old (name u l)) c.uri-2.ensures)
    (λ v l. c.take-group.ensures.others v l ∙ ap (λ u. cond (bytes_eq u v) None (map.get old (name v l))) c.uri-2.ensures)
    more q.local_part (q, c.args.kind)
    (λ l.
    btree_map_updates_text (string_bytes c.in_ok-local.local) group more (Some (q, c.args.kind)) c.in_ok-insert.ensures.updates l
    ∙ ap (λ j. update bytes_eq (get_by_text group) j (Some (q, c.args.kind)) l) (c.in_ok-local.ensures.ok ∙ c.local-2.ensures))
    (λ v l. c.in_ok-set-2.ensures.ok v l ∙ ap (λ u. cond (bytes_eq u v) (kind_at more l) (map.get after (name v l))) (c.in_ok-uri.ensures.ok ∙ c.uri.ensures))
    ∙ ap (λ b. cond b old (map.insert old q c.args.kind)) (returns-clause-known g c)

pub set-requires : goal.set-requires
set-requires g c =
    subst (λ u. IsGroup u c.take-group.result) (c.uri-2.ensures ∙ sym (c.in_ok-uri.ensures.ok ∙ c.uri.ensures)) c.take-group.ensures.names

pub set-requires-2 : goal.set-requires-2
set-requires-2 g c =
    let uri = c.in_ok-uri.ensures.ok ∙ c.uri.ensures in
    named_after (string_bytes c.in_ok-uri.uri) c.in_ok-local.local (c.args.name, c.args.kind) c.take-group.result c.insert.new.self
    (λ i. record { uri = sym uri i; local_part = sym (c.in_ok-local.ensures.ok ∙ c.local-2.ensures) i })
    (subst (λ u. IsGroup u c.take-group.result) (c.uri-2.ensures ∙ sym uri) c.take-group.ensures.names)
    c.in_ok-insert.ensures.entries
