use Rattle.oim_report.proofs.Shared.{◌≡◌, Some, Ok, Err, false, true, sym, ◌∙◌, subst, ap, option_map, is_lt, level_cmp, view, level_of, identifiers_in, tree_identifiers, entries, bindings_of, IsOrderOf, facts_said, outcome, Scope, OrderConcepts}
use Rattle.oim_report.proofs.AcceptedFacts.{facts_fit}
use Rattle.oim_report.proofs.Documents.{bindings_are_namespaces}
use Rattle.oim_report.proofs.FoundInOrder.{facts_same, found_said, if_err, if_ok, keys_found, whole_above, whole_outcome, whole_refused}
use Rattle.oim_report.proofs.Ranks.{order_concepts}
use Rattle.oim_report.proofs.ReferenceTexts.{references_kept}
use Rattle.oim_report.proofs.report_reader.ReportReader.read_in_pieces.Goals as goal

pub new-report-requires-clause-facts : goal.new-report-requires-clause-facts
new-report-requires-clause-facts c =
    let tree = view c.in_ok-outline.outline.tree in
    let sheet = c.self.inside.facts.sheet in
    let said = if_ok _ c.in-Ok.found _ c.in-Ok.is c.in_ok-found.ensures.found in
    let read = found_said c.turn_to.new.self.sheet c.turn_to.new.self.aliases said.0 _ _ said.2 in
    let accepted = c.in_ok-info.ensures.accepted in
    let aliases = c.in_ok-info.ensures.aliases in
    let turned = ap (λ (s : Scope). facts_said s.sheet s.aliases said.0) c.turn_to.ensures ∙ ap (λ bs. facts_said sheet bs said.0) aliases in
    rw c.sheet-sheet.ensures (facts_fit sheet (bindings_of tree) said.0 c.in-Ok.found.facts.items (bindings_are_namespaces tree accepted) (sym turned ∙ read))

pub new-report-requires-clause-references : goal.new-report-requires-clause-references
new-report-requires-clause-references c =
    let tree = view c.in_ok-outline.outline.tree in
    references_kept tree _ c.in_ok-info.ensures.references

pub new-report-requires-clause-order : goal.new-report-requires-clause-order
new-report-requires-clause-order c =
    subst (λ l. IsOrderOf l c.in_ok-order.order.items) c.as_slice.ensures.value c.in_ok-order.ensures

pub returns-clause-ok : goal.returns-clause-ok
returns-clause-ok c =
    let sheet = c.self.inside.facts.sheet in
    let tree = view c.in_ok-outline.outline.tree in
    let said = if_ok _ c.in-Ok.found _ c.in-Ok.is c.in_ok-found.ensures.found in
    let o = c.in_ok-outline.ensures in
    let whole = o.2 said.0 said.1 in
    let read = found_said c.turn_to.new.self.sheet c.turn_to.new.self.aliases said.0 _ _ said.2 in
    let accepted = c.in_ok-info.ensures.accepted in
    let aliases = c.in_ok-info.ensures.aliases in
    let references = c.in_ok-info.ensures.references in
    let level = c.in_ok-info.ensures.level in
    let turned = ap (λ (s : Scope). facts_said s.sheet s.aliases said.0) c.turn_to.ensures ∙ ap (λ bs. facts_said sheet bs said.0) aliases in
    let above : is_lt (level_cmp c.in_ok-info.info.level (level_of c.in-Ok.found.facts.items)) ≡ false = ap (λ fs. is_lt (level_cmp c.in_ok-info.info.level (level_of fs))) (sym c.as_slice-3.ensures.value) ∙ sym c.is_above.ensures ∙ c.if-is_above.false in
    ap (λ s. outcome s c.args.bytes.now) (sym c.self.view_is)
    ∙ whole_outcome sheet c.args.bytes.now tree o.0 said.0 whole.0 o.1 whole.2 whole.1 accepted c.in-Ok.found.facts.items c.in_ok-info.info.references.items c.in_ok-info.info.level
    (sym turned ∙ read) references level above
    ∙ ap Ok (sym c.new-report.ensures.document)

pub returns-clause-identifiers : goal.returns-clause-identifiers
returns-clause-identifiers c =
    let said = if_ok _ c.in-Ok.found _ c.in-Ok.is c.in_ok-found.ensures.found in
    let o = c.in_ok-outline.ensures in
    let whole = o.2 said.0 said.1 in
    ap (option_map tree_identifiers) whole.1
    ∙ ap (λ ms. Some (identifiers_in (entries ms))) (facts_same o.0 said.0 whole.0 whole.2)
    ∙ ap (λ ks. Some ks) (keys_found c.turn_to.new.self.sheet c.turn_to.new.self.aliases said.0 _ _ said.2)

pub order_of-requires : goal.order_of-requires
order_of-requires c =
    let f = c.in-Ok.found in
    let ordered = order_concepts c.turn_to.new.self.sheet.concepts f.facts.items f.ranks.items (if_ok _ c.in-Ok.found _ c.in-Ok.is c.in_ok-found.ensures.ranks) in
    subst (OrderConcepts c.as_slice-2.result.now) (sym c.as_slice.ensures.value) (subst (λ rs. OrderConcepts rs f.facts.items) (sym c.as_slice-2.ensures.value) ordered)

pub returns-in-Err-clause-refused : goal.returns-in-Err-clause-refused
returns-in-Err-clause-refused c =
    let sheet = c.self.inside.facts.sheet in
    let tree = view c.in_ok-outline.outline.tree in
    let said = if_err _ c.in-Err.refusal _ c.in-Err.is c.in_ok-found.ensures.refused in
    let o = c.in_ok-outline.ensures in
    let whole = o.2 said.0 said.1 in
    let turned = ap (λ (s : Scope). facts_said s.sheet s.aliases said.0) c.turn_to.ensures ∙ ap (λ bs. facts_said sheet bs said.0) c.in_ok-info.ensures.aliases in
    ap (λ s. outcome s c.args.bytes.now) (sym c.self.view_is)
    ∙ whole_refused sheet c.args.bytes.now tree o.0 said.0 whole.0 o.1 whole.2 whole.1 c.in_ok-info.ensures.accepted c.in-Err.refusal (sym turned ∙ said.2)

pub returns-then-is_above-clause-refused : goal.returns-then-is_above-clause-refused
returns-then-is_above-clause-refused c =
    let sheet = c.self.inside.facts.sheet in
    let tree = view c.in_ok-outline.outline.tree in
    let said = if_ok _ c.in-Ok.found _ c.in-Ok.is c.in_ok-found.ensures.found in
    let o = c.in_ok-outline.ensures in
    let whole = o.2 said.0 said.1 in
    let read = found_said c.turn_to.new.self.sheet c.turn_to.new.self.aliases said.0 _ _ said.2 in
    let info = c.in_ok-info.ensures in
    let turned = ap (λ (s : Scope). facts_said s.sheet s.aliases said.0) c.turn_to.ensures ∙ ap (λ bs. facts_said sheet bs said.0) info.aliases in
    let level = c.in_ok-info.info.level in
    let above : is_lt (level_cmp level (level_of c.in-Ok.found.facts.items)) ≡ true = ap (λ fs. is_lt (level_cmp level (level_of fs))) (sym c.as_slice-3.ensures.value) ∙ sym c.is_above.ensures ∙ c.if-is_above.true in
    ap (λ s. outcome s c.args.bytes.now) (sym c.self.view_is)
    ∙ whole_above sheet c.args.bytes.now tree o.0 said.0 whole.0 o.1 whole.2 whole.1 info.accepted c.in-Ok.found.facts.items c.in_ok-info.info.references.items level (sym turned ∙ read) info.references info.level above
    ∙ ap Err (sym c.from.ensures)
