use Rattle.oim_report.proofs.Shared.{◌≡◌, Some, None, Err, option_map, inl, inr, ⊎_elim, refl, sym, ap, subst, ◌∙◌, true, err_from_is_err_and, is_refused_binding, view, members_view, given, text_of}
use Rattle.oim_report.proofs.ReadInTurn.{bound_after, all_refused, all_bound, stops_at, refused_at}
use Rattle.oim_report.proofs.document.namespaces.read_namespaces.Goals as goal

pub returns-in_default-text-clause-refused : goal.returns-in_default-text-clause-refused
returns-in_default-text-clause-refused c =
    let none : text_of (given (view c.in-Some-2.uri.now)) ≡ None = sym (ap text_of c.of_value.ensures) ∙ sym c.text.ensures ∙ ap (option_map (λ s. s.now)) c.in_default-text.is in
    inr (refl, all_refused _ c.in-Some.entries.now.entries (ap (option_map (λ m. members_view m.now.entries)) c.in-Some.is) c.iter-prefix-items.ensures.ordered (sym c.loop-prefix.invariant ∙ stops_at c.loop-prefix.aliases c.loop-prefix.prefix-iterator c.next.new.self (c.in-Some-2.prefix.now, c.in-Some-2.uri.now) c.in-Some-2.ensures.steps none))

pub returns-in_err-add-clause-refused : goal.returns-in_err-add-clause-refused
returns-in_err-add-clause-refused c =
    let text : text_of (given (view c.in-Some-2.uri.now)) ≡ Some c.in-Some-text.uri.now = sym (ap text_of c.of_value.ensures) ∙ sym c.text.ensures ∙ ap (option_map (λ s. s.now)) c.in-Some-text.is in
    let p = err_from_is_err_and c.from_residual.result c.from_residual.ensures.1 in
    rw (p.1, p.2) (⊎_elim
    (λ same.
    let refused = c.in_err-add.ensures.refused.0 (ap Err same) in
    inr (same, all_refused _ c.in-Some.entries.now.entries (ap (option_map (λ m. members_view m.now.entries)) c.in-Some.is) c.iter-prefix-items.ensures.ordered (sym c.loop-prefix.invariant ∙ refused_at c.loop-prefix.aliases c.loop-prefix.prefix-iterator c.next.new.self (c.in-Some-2.prefix.now, c.in-Some-2.uri.now) c.in-Some-text.uri.now c.in-Some-2.ensures.steps text (subst (λ k. is_refused_binding c.loop-prefix.aliases k c.in-Some-text.uri.now ≡ true) c.as_str.ensures.value refused))))
    inl c.in_err-add.ensures.errors)

pub returns-clause-bound : goal.returns-clause-bound
returns-clause-bound c =
    all_bound _ c.in-Some.entries.now.entries c.loop-prefix.aliases (ap (option_map (λ m. members_view m.now.entries)) c.in-Some.is) c.iter-prefix-items.ensures.ordered
    (sym c.loop-prefix.invariant ∙ ap (λ es. bound_after c.loop-prefix.aliases (members_view es)) c.in-None.ensures.steps.0)
