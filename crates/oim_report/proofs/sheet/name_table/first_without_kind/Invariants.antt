use Rattle.oim_report.proofs.Shared.{◌≡◌, option_map, members_view, members, kindless}
use Rattle.oim_report.proofs.sheet.name_table.first_without_kind.Given as goal

abbrev pub invariant-loop-key : goal.invariant-loop-key
invariant-loop-key g l =
    kindless g.K.Kind.kind_named g.K.Kind.same_kind (members_view l.key-iterator) ≡ kindless g.K.Kind.kind_named g.K.Kind.same_kind (members (option_map (λ m. members_view m.now.entries) l.fn.entries))
