use Rattle.oim_report.proofs.Shared.{◌≡◌, map, option_map, Some, members_view, any_in, any_member, is_unknown, unknown_in}
use Rattle.oim_report.proofs.json_values.json_tree.unknown_in.Given as goal

abbrev pub invariant-loop-key : goal.invariant-loop-key
invariant-loop-key l =
    let known = map (λ s. s.now) l.known in
    let ms = option_map (λ m. members_view m.now.entries) l.fn.object in
    (any_member (is_unknown known) (members_view l.key-iterator) ≡ any_in (is_unknown known) ms)
    × (unknown_in known (Some (members_view l.key-iterator)) ≡ unknown_in known ms)
