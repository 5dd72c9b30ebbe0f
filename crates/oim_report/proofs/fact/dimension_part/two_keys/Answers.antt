use Rattle.oim_report.proofs.Shared.{rules, false, string_bytes, sym, ap, ◌∙◌, view, members_view, defined_members, is_some_and, defined_name, names_with}
use Rattle.std.specs.FinMap as map
use Rattle.oim_report.proofs.ShownFaults.{after_key, in_none, repeated_in}
use Rattle.oim_report.proofs.fact.dimension_part.two_keys.Goals as goal

pub loop-key-init : goal.loop-key-init
loop-key-init c = in_none c.args.aliases.now c.new-before.result (defined_members (members_view c.into_iter-key-iterator.result)) (search rules) ∙ search rules

pub loop-key-preserved : goal.loop-key-preserved
loop-key-preserved c =
    let l = c.loop-key in
    let bs = c.args.aliases.now in
    let m = l.before in
    let es = defined_members (members_view c.next.new.self) in
    let again = sym c.if-branch.false ∙ c.in_ok-repeats_name.ensures.again ∙ ap (λ k. is_some_and (map.contains_key m) (defined_name bs k)) c.as_str.ensures.value in
    let names = c.in_ok-repeats_name.ensures.names ∙ ap (λ k. names_with m (defined_name bs k)) c.as_str.ensures.value in
    sym (after_key bs m (string_bytes c.in-Some.key.now) (view c.in-Some._value.now) es c.repeats_name.new.before false again names)
    ∙ ap (λ es. repeated_in bs m (defined_members (members_view es))) (sym c.in-Some.ensures.steps)
    ∙ l.invariant
