use Rattle.oim_report.proofs.Shared.{◌∙◌, option_map, IfOk-weaker, IfErr-weaker, members_view, Namespace, any_in, members, binds_nothing, bindings_in}
use Rattle.oim_report.proofs.DocumentHolds.{found_is, unless_bad, where_bad}
use Rattle.oim_report.proofs.document.namespaces.bound_aliases.Goals as goal

pub returns : goal.returns
returns c =
    let ms = option_map (λ m. members_view m.now.entries) c.args.namespaces in
    let bad = any_in binds_nothing ms in
    let bs = bindings_in (members ms) in
    let read = c.read_namespaces.result in
    IfOk-weaker c.unless_memory.result _ _
    (λ found h. h.0 ∙ found_is read _ Namespace h.1 (IfOk-weaker read _ _ (λ a e. unless_bad bad bs a e) c.read_namespaces.ensures.bound) (IfErr-weaker read _ _ (λ r e. where_bad bad bs r Namespace e) c.read_namespaces.ensures.refused))
    c.unless_memory.ensures
