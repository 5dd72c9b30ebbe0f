use Rattle.oim_report.proofs.Shared.{◌≡◌, option_map, find, members_view, refuses, members, key_names}
use Rattle.oim_report.proofs.sheet.sheet_form.refused_key.Given as goal

abbrev pub invariant-loop-key : goal.invariant-loop-key
invariant-loop-key l =
    let first = find (refuses l.reason l.aliases) in
    first (key_names (members_view l.key-iterator)) ≡ first (key_names (members (option_map (λ m. members_view m.now.entries) l.fn.entries)))
