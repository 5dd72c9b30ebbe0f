use Rattle.oim_report.proofs.Shared.{rules, ◌≡◌, Ok, Some, subst, IfOk, IfOk-weaker, view, SaysDocument, outcome, tree_outcome, Reading}
use Rattle.oim_report.proofs.Documents.{document_said, outcomes_are_said}
use Rattle.oim_report.proofs.report_reader.ReportReader.read.Goals as goal

pub returns-clause-said : goal.returns-clause-said
returns-clause-said c =
    let sheet = c.read_in_pieces.new.self in
    let tree = Some (view c.in_ok-tree.tree) in
    subst (λ s. IfOk c.read_tree.result (λ (r : Reading). SaysDocument s c.args.bytes.now r.document)) c.read_in_pieces.ensures.same
    (IfOk-weaker c.read_tree.result (λ (r : Reading). tree_outcome sheet tree ≡ Ok r.document) (λ (r : Reading). SaysDocument sheet c.args.bytes.now r.document) (λ r said. document_said sheet c.args.bytes.now tree r.document c.in_ok-tree.ensures.value said) c.read_tree.ensures.ok)

pub returns-in-Ok-Ok-clause-said : goal.returns-in-Ok-Ok-clause-said
returns-in-Ok-Ok-clause-said c =
    let said : outcome c.args.self.now c.args.bytes.now ≡ Ok c.in-Ok-Ok.report.document = search rules in
    outcomes_are_said c.args.self.now c.args.bytes.now _ said
