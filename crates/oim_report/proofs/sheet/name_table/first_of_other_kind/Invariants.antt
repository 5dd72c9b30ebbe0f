use Rattle.oim_report.proofs.Shared.{◌≡◌, ℕ, List, Some, IfSome, option_map, uri_of, members_view, entries, members, of_other_kind, IsSpan}
use Rattle.std.specs.FinMap as map
use Rattle.oim_report.proofs.sheet.name_table.first_of_other_kind.Given as goal

abbrev pub invariant-loop-key : goal.invariant-loop-key
invariant-loop-key g l =
    let first = of_other_kind g.K.Kind.kind_named g.K.Kind.same_kind l.aliases l.names in record {
      found : first (entries (members_view l.key-iterator)) ≡ first (entries (members (option_map (λ m. members_view m.now.entries) l.entries)));
      last : IfSome l.last (λ p. (u : List ℕ) → uri_of l.aliases p.0.now ≡ Some u → IsSpan (map.entries l.names) u p.1);
    }
