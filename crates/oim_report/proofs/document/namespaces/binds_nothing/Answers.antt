use Rattle.oim_report.proofs.Shared.{◌≡◌, Some, None, option_map, sym, ap, ◌∙◌, IfOk-weaker, view, given, text_of}
use Rattle.oim_report.proofs.DocumentHolds.{with_text, without_text}
use Rattle.oim_report.proofs.document.namespaces.binds_nothing.Goals as goal

pub returns-in-Some : goal.returns-in-Some
returns-in-Some c =
    let d = view c.args.uri.now in
    let text : text_of (given d) ≡ Some c.in-Some.uri.now = sym (ap text_of c.of_value.ensures) ∙ sym c.text.ensures ∙ ap (option_map (λ s. s.now)) c.in-Some.is in
    IfOk-weaker c.is_no_binding.result _ _ (λ b h. h ∙ with_text c.args.prefix.now d c.in-Some.uri.now text) c.is_no_binding.ensures

pub returns-in-None : goal.returns-in-None
returns-in-None c =
    let d = view c.args.uri.now in
    let none : text_of (given d) ≡ None = sym (ap text_of c.of_value.ensures) ∙ sym c.text.ensures ∙ ap (option_map (λ s. s.now)) c.in-None.is in
    without_text c.args.prefix.now d none
