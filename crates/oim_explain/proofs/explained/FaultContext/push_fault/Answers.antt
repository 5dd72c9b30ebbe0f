use Rattle.std.proofs.Common.{ℕ, List, [], ◌∷◌, Some, ap, subst, sym, ◌∙◌}
use Rattle.std.specs.Prelude.{OnOk}
use Rattle.oim_report.specs.Outcome.{at}
use Rattle.oim_report.specs.declared.place.Place.TheVariants as place
use Rattle.oim_explain.specs.Explained.{printed_fault}
use Rattle.oim_explain.specs.Lines.{Printed}
use Rattle.oim_explain.specs.code.Added.{AddsLines, of_subject, texts_of}
use Rattle.oim_explain.specs.declared.subject.Subject.TheVariants as subject
use Rattle.oim_explain.proofs.explained.FaultContext.push_fault.Goals as goal

pub returns-in_ok-meaning_of-in-Fact : goal.returns-in_ok-meaning_of-in-Fact
returns-in_ok-meaning_of-in-Fact c =
    let ids = texts_of c.args.self.now.identifiers.items in
    let reason = c.args.fault.refusal.reason in
    let made = c.new-in-Fact in
    let with_identifier : List ℕ → Printed = λ text. record { refusal = Some (at (place.Fact c.in-Fact.number) reason); identifier = Some text } in
    let of_fact = ap (of_subject made.result.reason) made.ensures.subject ∙ ap (λ r. of_subject r (subject.Fact c.in-Fact.number c.identifier.result)) made.ensures.reason in
    let is = of_fact ∙ ap with_identifier c.identifier.ensures ∙ ap (λ p. printed_fault ids (at p reason)) (sym c.in-Fact.is) in
    subst (λ p. OnOk c.push-in-Fact.result (AddsLines c.args.lines.now c.push-in-Fact.new.self (p ∷ []))) is c.push-in-Fact.ensures
