use Rattle.oim_report.proofs.Shared.{◌≡◌, find, members_view, entries, spell_same}
use Rattle.oim_report.proofs.sheet.same_names.beside_first.Given as goal

abbrev pub invariant-loop-first : goal.invariant-loop-first
invariant-loop-first l =
    let first = find (λ m. spell_same l.aliases l.key m.0) in
    first (entries (members_view l.first-iterator)) ≡ first (entries (members_view l.members.entries))
