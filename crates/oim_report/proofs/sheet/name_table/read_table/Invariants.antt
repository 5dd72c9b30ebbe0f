use Rattle.oim_report.proofs.Shared.{◌≡◌, ◌++◌, [], ℕ, List, filter, option_map, unwrap_or, shadow, Utf8, uri_of, members_view, members, entries_in, AreLists, SharesUri, has_uri, list_at}
use Rattle.oim_report.proofs.sheet.name_table.read_table.Given as goal

-- the names that were read and those that are left are those of the object
abbrev pub invariant-loop-key : goal.invariant-loop-key
invariant-loop-key g l =
    let entries = entries_in g.K.Kind.kind_named g.K.Kind.same_kind l.aliases in
    shadow (Utf8 l.last) × AreLists l.lists × SharesUri (unwrap_or (uri_of l.aliases l.last) []) l.run.items
    × ((u : List ℕ) → (list_at l.lists u ++ filter (has_uri u) l.run.items) ++ filter (has_uri u) (entries (members_view l.key-iterator)) ≡ filter (has_uri u) (entries (members (option_map (λ m. members_view m.now.entries) l.object))))
