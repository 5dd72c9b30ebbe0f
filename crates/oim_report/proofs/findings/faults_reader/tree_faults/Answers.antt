use Rattle.oim_report.proofs.Shared.{◌≡◌, ◌≢◌, rules, [], ◌∷◌, ◌++◌, true, false, Ok, Option, Some, IfSome, is_some, subst, ap, sym, ◌∙◌, inr, AllByRecursion, Data, view, OutOfMemory, Fault, HasPart, IsOfDuplicates, listed, refusals_of, shown_fault, document_refusal, facts_of, values, facts_said, Sheet, document_faults, facts_faults}
use Rattle.oim_report.proofs.FaultLaws.{above_declared, all_said, no_document_fault}
use Rattle.oim_report.proofs.FaultParts.{document_free, document_listed, document_parts, facts_free, facts_listed, facts_parts, last_listed}
use Rattle.oim_report.proofs.Naming.{only_memory}
use Rattle.oim_report.proofs.findings.faults_reader.tree_faults.Goals as goal
use Rattle.oim_report.proofs.findings.faults_reader.tree_faults.Goals.{in-Some+in_ok-push, in_default}

apart : (sheet : Sheet) (tree : Data) (found : Option Fault) (fault : Fault) → found ≡ Some fault → IfSome found (λ f. IsOfDuplicates sheet tree (shown_fault f)) → IsOfDuplicates sheet tree (shown_fault fault)
apart sheet tree found fault is = subst (λ o. IfSome o (λ f. IsOfDuplicates sheet tree (shown_fault f))) is

pub returns-then-not-is_empty-clause-refusals : goal.returns-then-not-is_empty-clause-refusals
returns-then-not-is_empty-clause-refusals c =
    let tree = view c.args.tree.now in
    let shown = c.in_ok-add_document.ensures ∙ ap (λ l. l ++ document_faults tree) c.new-faults.ensures in
    document_listed c.args.sheet.now tree _ shown (sym c.is_empty.ensures ∙ c.if-not-is_empty.true)

pub returns-then-not-is_empty-clause-parts : goal.returns-then-not-is_empty-clause-parts
returns-then-not-is_empty-clause-parts c =
    let sheet = c.args.sheet.now in
    let tree = view c.args.tree.now in
    let shown = c.in_ok-add_document.ensures ∙ ap (λ l. l ++ document_faults tree) c.new-faults.ensures in
    subst (AllByRecursion (HasPart sheet tree)) (sym shown) (document_parts sheet tree)

pub unreachable-requires : goal.unreachable-requires
unreachable-requires c =
    let tree = view c.args.tree.now in
    let shown = c.in_ok-add_document.ensures ∙ ap (λ l. l ++ document_faults tree) c.new-faults.ensures in
    let free = document_free c.args.sheet.now tree _ shown (sym c.is_empty.ensures ∙ c.if-not-is_empty.false) in
    let other : c.in-Err.field-0 ≢ OutOfMemory = search rules in
    other (only_memory (document_refusal tree) c.in-Err.field-0 (no_document_fault tree free.1) c.in-Err.ensures.refused)

pub returns-then-not-is_empty-2-clause-refusals : goal.returns-then-not-is_empty-2-clause-refusals
returns-then-not-is_empty-2-clause-refusals c =
    let sheet = c.args.sheet.now in
    let tree = view c.args.tree.now in
    let objects = values (facts_of tree) in
    let shown = c.in_ok-add_document.ensures ∙ ap (λ l. l ++ document_faults tree) c.new-faults.ensures in
    let free = document_free sheet tree _ shown (sym c.is_empty.ensures ∙ c.if-not-is_empty.false) in
    let more = c.in_ok-add_facts.ensures ∙ (λ i. free.0 i ++ facts_faults sheet (c.in-Ok.ensures.aliases i) 1 objects) in
    facts_listed sheet tree _ free.1 more (sym c.is_empty-2.ensures ∙ c.if-not-is_empty-2.true)

pub returns-then-not-is_empty-2-clause-parts : goal.returns-then-not-is_empty-2-clause-parts
returns-then-not-is_empty-2-clause-parts c =
    let sheet = c.args.sheet.now in
    let tree = view c.args.tree.now in
    let objects = values (facts_of tree) in
    let shown = c.in_ok-add_document.ensures ∙ ap (λ l. l ++ document_faults tree) c.new-faults.ensures in
    let free = document_free sheet tree _ shown (sym c.is_empty.ensures ∙ c.if-not-is_empty.false) in
    let more = c.in_ok-add_facts.ensures ∙ (λ i. free.0 i ++ facts_faults sheet (c.in-Ok.ensures.aliases i) 1 objects) in
    subst (AllByRecursion (HasPart sheet tree)) (sym more) (facts_parts sheet tree)

pub returns-clause-refusals : goal.returns-clause-refusals
returns-clause-refusals c =
    let sheet = c.args.sheet.now in
    let tree = view c.args.tree.now in
    let objects = values (facts_of tree) in
    let shown = c.in_ok-add_document.ensures ∙ ap (λ l. l ++ document_faults tree) c.new-faults.ensures in
    let free = document_free sheet tree _ shown (sym c.is_empty.ensures ∙ c.if-not-is_empty.false) in
    let more = c.in_ok-add_facts.ensures ∙ (λ i. free.0 i ++ facts_faults sheet (c.in-Ok.ensures.aliases i) 1 objects) in
    let last = facts_free sheet tree _ more (sym c.is_empty-2.ensures ∙ c.if-not-is_empty-2.false) in
    let said = all_said sheet tree last.1 in
    let here : facts_said sheet c.in-Ok.info.aliases (facts_of tree) ≡ Ok said.0 = ap (λ bs. facts_said sheet bs (facts_of tree)) c.in-Ok.ensures.aliases ∙ said.1 in
    let above = above_declared sheet tree said.0 c.in-Ok.info.level said.1 c.in-Ok.ensures.level ∙ sym (c.in_ok-fault.ensures.above said.0 here) in
    elim c.match-branch-5.branch [
      | in-Some+in_ok-push w ↦
          let found = ap listed w.faults-is ∙ w.in_ok-push.ensures ∙ ap (λ l. l ++ shown_fault w.in-Some.fault ∷ []) last.0 in
          ap refusals_of found ∙ ap (λ r. r ∷ []) (apart sheet tree _ w.in-Some.fault w.in-Some.is c.in_ok-fault.ensures.apart).3 ∙ last_listed sheet tree true free.1 last.1 (above ∙ ap is_some w.in-Some.is)
      | in_default w ↦
          ap (λ fs. refusals_of (listed fs)) w.faults-is ∙ ap refusals_of last.0 ∙ last_listed sheet tree false free.1 last.1 (above ∙ ap is_some w.in_default.is)
    ]

pub returns-clause-parts : goal.returns-clause-parts
returns-clause-parts c =
    let sheet = c.args.sheet.now in
    let tree = view c.args.tree.now in
    let objects = values (facts_of tree) in
    let shown = c.in_ok-add_document.ensures ∙ ap (λ l. l ++ document_faults tree) c.new-faults.ensures in
    let free = document_free sheet tree _ shown (sym c.is_empty.ensures ∙ c.if-not-is_empty.false) in
    let more = c.in_ok-add_facts.ensures ∙ (λ i. free.0 i ++ facts_faults sheet (c.in-Ok.ensures.aliases i) 1 objects) in
    let last = facts_free sheet tree _ more (sym c.is_empty-2.ensures ∙ c.if-not-is_empty-2.false) in
    elim c.match-branch-5.branch [
      | in-Some+in_ok-push w ↦
          let found = ap listed w.faults-is ∙ w.in_ok-push.ensures ∙ ap (λ l. l ++ shown_fault w.in-Some.fault ∷ []) last.0 in
          subst (AllByRecursion (HasPart sheet tree)) (sym found) (inr (inr (apart sheet tree _ w.in-Some.fault w.in-Some.is c.in_ok-fault.ensures.apart)), tt)
      | in_default w ↦ subst (AllByRecursion (HasPart sheet tree)) (sym (ap listed w.faults-is ∙ last.0)) tt
    ]
