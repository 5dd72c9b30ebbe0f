use Rattle.oim_report.proofs.Shared.{◌≡◌, option_map, find, members_view, entries, members, binds_nothing}
use Rattle.oim_report.proofs.document.namespaces.unbound.Given as goal

abbrev pub invariant-loop-prefix : goal.invariant-loop-prefix
invariant-loop-prefix l =
    let first = find (λ m. binds_nothing m.0 m.1) in
    first (entries (members_view l.prefix-iterator)) ≡ first (entries (members (option_map (λ m. members_view m.now.entries) l.fn.namespaces)))
