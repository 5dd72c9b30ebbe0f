use Rattle.oim_report.proofs.Shared.{rules, ap, ◌∙◌, view, members, bindings_in}
use Rattle.oim_report.specs.Sheet.{concept_kind_named, dimension_kind_named, listed, same_concept_kind, same_dimension_kind}
use Rattle.oim_report.proofs.SheetEntries.{sheet_least}
use Rattle.oim_report.proofs.sheet.Sheet.from_tree.Goals as goal

pub check_entries-requires-clause-bindings : goal.check_entries-requires-clause-bindings
check_entries-requires-clause-bindings c = c.in_ok-aliases.ensures.bound.0 ∙ ap (λ o. bindings_in (members o)) c.object_at.ensures

pub check_entries-requires-clause-listed : goal.check_entries-requires-clause-listed
check_entries-requires-clause-listed c =
    let is = c.in_ok-aliases.ensures.bound.0 ∙ ap (λ o. bindings_in (members o)) c.object_at.ensures in
    λ i. record {
      concepts = (c.in_ok-concepts.ensures ∙ (λ j. listed concept_kind_named same_concept_kind (is j) (members (c.object_at-listed.ensures j)))) i;
      dimensions = (c.in_ok-dimensions.ensures ∙ (λ j. listed dimension_kind_named same_dimension_kind (is j) (members (c.object_at-defined.ensures j)))) i;
    }

pub returns-in_err-check_form-clause-errors : goal.returns-in_err-check_form-clause-errors
returns-in_err-check_form-clause-errors c = rw (← sheet_least (view c.args.tree.now)) (search rules)

pub returns-in_err-aliases-clause-errors : goal.returns-in_err-aliases-clause-errors
returns-in_err-aliases-clause-errors c = rw (← sheet_least (view c.args.tree.now)) (search rules)

pub returns-in_err-check_entries-clause-errors : goal.returns-in_err-check_entries-clause-errors
returns-in_err-check_entries-clause-errors c = rw (← sheet_least (view c.args.tree.now)) (search rules)

pub returns-clause-ok : goal.returns-clause-ok
returns-clause-ok c = rw (← sheet_least (view c.args.tree.now)) (search rules)
