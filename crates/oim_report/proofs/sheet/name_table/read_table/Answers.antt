use Rattle.oim_report.proofs.Shared.{rules, ◌≡◌, ◌++◌, ◌∷◌, [], ℕ, List, Some, None, filter, string_bytes, bytes_eq, option_map, sym, ap, subst, ◌∙◌, append-nil, FinMap, unwrap_or, IfOk-weaker, uri_of, QName, is_name, name_cmp, prefix_part, same_bytes, view, members_view, members, named, entries_in, kind_in, named_kind, SharesUri, has_uri, list_at}
use Rattle.std.specs.FinMap as map
use Rattle.oim_report.proofs.Naming.{stands}
use Rattle.oim_report.proofs.NameLists.{entry_name, lists_make, moved, next_entries, no_lists, none_at, shared_more}
use Rattle.oim_report.proofs.sheet.name_table.read_table.Goals as goal

pub loop-key-init : goal.loop-key-init
loop-key-init g c =
    let all = members (option_map (λ m. members_view m.now.entries) c.args.object) in
    let start : members_view c.into_iter-key-iterator.result ≡ all = search rules in (
      search rules,
      no_lists c.new-lists.result c.new-lists.ensures.empty c.new-lists.ensures.ordered,
      subst (SharesUri (unwrap_or (uri_of c.args.aliases.now []) [])) (sym c.new-run.ensures.items) tt,
      λ u i. (none_at c.new-lists.result u c.new-lists.ensures.empty i ++ filter (has_uri u) (c.new-run.ensures.items i)) ++ filter (has_uri u) (entries_in g.K.Kind.kind_named g.K.Kind.same_kind c.args.aliases.now (start i)),
    )

pub turn-requires-clause-lists : goal.turn-requires-clause-lists
turn-requires-clause-lists g c = c.loop-key.invariant.1

pub turn-requires-clause-shared : goal.turn-requires-clause-shared
turn-requires-clause-shared g c = (unwrap_or (uri_of c.args.aliases.now c.loop-key.last.now) [], c.loop-key.invariant.2)

pub add_run-requires-clause-lists : goal.add_run-requires-clause-lists
add_run-requires-clause-lists g c = c.loop-key.invariant.1

pub add_run-requires-clause-shared : goal.add_run-requires-clause-shared
add_run-requires-clause-shared g c = (unwrap_or (uri_of c.args.aliases.now c.loop-key.last.now) [], c.loop-key.invariant.2)

pub loop-key-preserved-in_default-2 : goal.loop-key-preserved-in_default-2
loop-key-preserved-in_default-2 g c =
    let kinds = g.K.Kind.kind_named in
    let same = g.K.Kind.same_kind in
    let bs = c.args.aliases.now in
    let l = c.loop-key in
    let key = string_bytes c.in-Some-2.key.now in
    let value = view c.in-Some-2.value.now in
    let rest = c.next.new.self in
    let next = next_entries kinds same bs key value (members_view rest) None (sym c.in_default-2.is ∙ c.in_ok-entry.ensures ∙ ap (λ k. named_kind kinds same bs (k, value)) c.as_str.ensures.value) in (
      l.invariant.0,
      l.invariant.1,
      l.invariant.2,
      λ u.
          ap (λ es. (list_at l.lists u ++ filter (has_uri u) l.run.items) ++ filter (has_uri u) es) (sym next ∙ ap (λ es. entries_in kinds same bs (members_view es)) (sym c.in-Some-2.ensures.steps)) ∙ l.invariant.3 u,
    )

pub loop-key-preserved : goal.loop-key-preserved
loop-key-preserved g c =
    let kinds = g.K.Kind.kind_named in
    let same = g.K.Kind.same_kind in
    let bs = c.args.aliases.now in
    let l = c.loop-key in
    let key = string_bytes c.in-Some-2.key.now in
    let value = view c.in-Some-2.value.now in
    let rest = c.next.new.self in
    let e : QName × g.row.K.Denot = c.in-Some-3.entry in
    let is : Some e ≡ named_kind kinds same bs (key, value) = sym c.in-Some-3.is ∙ c.in_ok-entry.ensures ∙ ap (λ k. named_kind kinds same bs (k, value)) c.as_str.ensures.value in
    let next = next_entries kinds same bs key value (members_view rest) (Some e) is in
    let prefix = c.split_name.result.0.now in
    let uri = ap (uri_of bs) (c.split_name.ensures.prefix ∙ ap prefix_part c.as_str-in-loop-key.ensures.value) ∙ (stands is_name bs key e.0 (entry_name (named bs key) (kind_in kinds same value) e is)).uri in
    let here : e.0.uri ≡ unwrap_or (uri_of bs prefix) [] = sym (ap (λ o. unwrap_or o []) uri) in
    let lists = c.turn.new.lists in
    let run = c.turn.new.run.items in
    let entries = entries_in kinds same bs in (
      search rules,
      c.in_ok-turn.ensures.lists,
      subst (SharesUri (unwrap_or (uri_of bs prefix) [])) (sym c.in_ok-push.ensures.items)
          (shared_more (bytes_eq prefix l.last.now) (unwrap_or (uri_of bs l.last.now) []) (unwrap_or (uri_of bs prefix) []) run l.run.items e c.in_ok-turn.ensures.run (λ t. ap (λ p. unwrap_or (uri_of bs p) []) (sym (same_bytes prefix l.last.now t))) l.invariant.2 here),
      λ u.
          ap (λ xs. (list_at lists u ++ filter (has_uri u) xs) ++ filter (has_uri u) (entries (members_view rest))) c.in_ok-push.ensures.items
          ∙ moved u (list_at lists u) run (e ∷ []) (entries (members_view rest))
          ∙ (λ i. c.in_ok-turn.ensures.same u i ++ filter (has_uri u) (sym next i))
          ∙ ap (λ es. (list_at l.lists u ++ filter (has_uri u) l.run.items) ++ filter (has_uri u) (entries (members_view es))) (sym c.in-Some-2.ensures.steps)
          ∙ l.invariant.3 u,
    )

pub returns : goal.returns
returns g c =
    let l = c.loop-key in
    let entries = entries_in g.K.Kind.kind_named g.K.Kind.same_kind c.args.aliases.now in
    let all = entries (members (option_map (λ m. members_view m.now.entries) c.args.object)) in
    let lists = c.add_run.new.lists in
    let same : (u : List ℕ) → list_at lists u ≡ filter (has_uri u) all = λ u.
    c.in_ok-add_run.ensures.added u
    ∙ sym (append-nil (list_at l.lists u ++ filter (has_uri u) l.run.items))
    ∙ ap (λ es. (list_at l.lists u ++ filter (has_uri u) l.run.items) ++ filter (has_uri u) (entries (members_view es))) (sym c.in-None.ensures.steps.0)
    ∙ l.invariant.3 u in
    IfOk-weaker c.of_lists.result _ (λ (n : FinMap name_cmp g.row.K.Denot). n ≡ map.from_entries all) (λ n h. h ∙ lists_make lists all c.in_ok-add_run.ensures.lists same) c.of_lists.ensures
