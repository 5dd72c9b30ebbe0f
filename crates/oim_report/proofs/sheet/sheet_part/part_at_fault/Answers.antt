use Rattle.oim_report.proofs.Shared.{◌≡◌, true, sym, ap, ◌∙◌, option_map, find, view, members_view, any_in, entries, members, binds_nothing, bindings_in}
use Rattle.oim_report.specs.Shown.{entry, seen, sheet_shown, unbound_entry}
use Rattle.oim_report.proofs.ShownFaults.{namespaces_first, or_nothing, refused_if}
use Rattle.oim_report.proofs.sheet.sheet_part.part_at_fault.Goals as goal

pub returns-in_ok-entry-in-Namespace : goal.returns-in_ok-entry-in-Namespace
unfolding sheet_shown
returns-in_ok-entry-in-Namespace c =
    let ms = members (option_map (λ m. members_view m.now.entries) c.object_at.result) in
    ap seen c.unwrap_or-in-Namespace.ensures
    ∙ or_nothing c.in_ok-entry-in-Namespace.entry entry (find (λ m. binds_nothing m.0 m.1) (entries ms)) c.in_ok-entry-in-Namespace.ensures
    ∙ ap unbound_entry c.object_at.ensures
    ∙ ap (sheet_shown (view c.args.tree.now)) (sym c.in-Namespace.is)

pub returns-in-None : goal.returns-in-None
returns-in-None c =
    let ms = option_map (λ m. members_view m.now.entries) c.object_at-in_default.result in
    let bad : any_in binds_nothing ms ≡ true = refused_if (any_in binds_nothing ms) (bindings_in (members ms)) (sym c.in-None.is ∙ c.in_ok-aliases-in_default.ensures) in
    absurd (namespaces_first (view c.args.tree.now) c.args.reason (ap (any_in binds_nothing) (sym c.object_at-in_default.ensures) ∙ bad) c.requires c.in_default.not-MemberForm c.in_default.not-UnknownMember c.in_default.not-Namespace)
