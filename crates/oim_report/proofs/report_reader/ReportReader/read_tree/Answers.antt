use Rattle.oim_report.proofs.Shared.{view, ap, sym, ◌∙◌, facts_of, facts_said, Scope}
use Rattle.oim_report.proofs.Documents.{report_fits}
use Rattle.oim_report.proofs.ReferenceTexts.{references_kept}
use Rattle.oim_report.proofs.report_reader.ReportReader.read_tree.Goals as goal

pub new-requires-clause-references : goal.new-requires-clause-references
new-requires-clause-references c = references_kept (view c.args.tree.now) _ c.in_ok-info.ensures.references

pub new-requires-clause-facts : goal.new-requires-clause-facts
new-requires-clause-facts c =
    let tree = view c.args.tree.now in
    let sheet = c.self.inside.facts.sheet in
    let objects = facts_of tree in
    let turned = ap (λ (s : Scope). facts_said s.sheet s.aliases objects) c.turn_to.ensures ∙ ap (λ bs. facts_said sheet bs objects) c.in_ok-info.ensures.aliases in
    rw c.sheet-sheet.ensures (report_fits sheet tree _ c.in_ok-info.ensures.accepted (sym turned ∙ c.in_ok-facts.ensures.ok))
