use Rattle.oim_report.proofs.Shared.{◌++◌, Err, sym, ap, ◌∙◌, if◌then◌else◌, Some, None, result_err, err_from_is_err_and, view, SheetKind, members, names_refusal, key_names}
use Rattle.oim_report.proofs.EachRefusal.{or_refusal}
use Rattle.oim_report.proofs.SheetEntries.{bad_kinds, entries_refusal}
use Rattle.oim_report.proofs.sheet.check_entries.Goals as goal

pub returns-in_err-check_names : goal.returns-in_err-check_names
returns-in_err-check_names c =
    let tree = view c.args.tree.now in
    let p = err_from_is_err_and c.from_residual.result c.from_residual.ensures.1 in
    let names = c.in_err-check_names.ensures ∙ (λ i. names_refusal (c.requires.bindings i) (key_names (members (c.object_at-listed.ensures i)) ++ key_names (members (c.object_at-defined.ensures i)))) in
    ap result_err (p.1 ∙ ap Err p.2) ∙ ap (λ o. or_refusal o (if bad_kinds tree then Some SheetKind else None)) names ∙ sym (entries_refusal tree)
