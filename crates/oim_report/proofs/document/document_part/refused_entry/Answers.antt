use Rattle.oim_report.proofs.Shared.{rules, ◌≡◌, ap, option_map, ◌∙◌, find, IfOk-weaker, view, members_view, namespaces_of, entries, members, binds_nothing}
use Rattle.oim_report.specs.Holds.{document_holds}
use Rattle.oim_report.specs.Shown.{document_shown, entry}
use Rattle.oim_report.proofs.ShownFaults.{entry_shown}
use Rattle.oim_report.proofs.document.document_part.refused_entry.Goals as goal

pub returns : goal.returns
unfolding document_holds document_shown
returns c =
    let found : option_map (λ m. members_view m.now.entries) c.and_then-namespaces.result ≡ namespaces_of (view c.args.tree.now) = search rules in
    IfOk-weaker c.unbound.result _ _
    (λ part h. h ∙ ap (λ ms. option_map entry (find (λ m. binds_nothing m.0 m.1) (entries (members ms)))) found ∙ entry_shown binds_nothing (namespaces_of (view c.args.tree.now)))
    c.unbound.ensures
