use Rattle.oim_report.proofs.Shared.{◌≡◌, Bool, true, false, refl, sym, ap, ◌∙◌, IsTrue, allows_values, values_meet}
use Rattle.oim_report.proofs.Ties.{equal_values_tie}
use Rattle.oim_report.proofs.ValuesMeet.{values_meet_is_meets}
use Rattle.oim_report.proofs.findings.facts_apart.allows_values.Goals as goal

both_ways : (a b : Bool) → (IsTrue a → IsTrue b) → (IsTrue b → IsTrue a) → a ≡ b
both_ways true b f g = sym (f refl)
both_ways false true f g = g refl
both_ways false false f g = refl

pub returns-in-Complete : goal.returns-in-Complete
returns-in-Complete c =
    c.eq.ensures ∙ equal_values_tie c.args.value.now c.args.other.now ∙ ap (λ l. allows_values l c.args.value.now c.args.other.now) (sym c.in-Complete.is)

pub returns-in-Consistent : goal.returns-in-Consistent
returns-in-Consistent c =
    let v = c.args.value.now in
    let w = c.args.other.now in
    both_ways c.value_meets.result (values_meet v w) (λ t. (values_meet_is_meets v w).1 (c.value_meets.ensures.0 t)) (λ t. c.value_meets.ensures.1 ((values_meet_is_meets v w).0 t))
    ∙ ap (λ l. allows_values l v w) (sym c.in-Consistent.is)
