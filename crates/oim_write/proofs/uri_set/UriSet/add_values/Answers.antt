use Rattle.oim_write.proofs.Shared.{◌≡◌, [], ◌∷◌, refl, sym, subst, arith, QName, Value, value_names, Gains}
use Rattle.oim_value.specs.declared.value.Value.TheVariants.{Name}
use Rattle.oim_write.proofs.UriSets.{gains_more, gains_none}
use Rattle.oim_write.proofs.uri_set.UriSet.add_values.Goals as goal
use Rattle.oim_write.proofs.uri_set.UriSet.add_values.Goals.{in-Name+in_ok-add, in_default}

no_name : (v : Value) → ((n : QName) → v ≡ Name n → ⊥) → value_names v ≡ []
no_name (Name n) other = absurd (other n refl)
no_name v other = refl

pub loop-value-preserved : goal.loop-value-preserved
loop-value-preserved c =
    let l = c.loop-value in
    let v = c.value-item.result in
    let gained : Gains l.self (value_names v) c.match-value.self = elim c.match-value.branch [
      | in-Name+in_ok-add w ↦ subst (λ x. Gains l.self (value_names x) c.match-value.self) (sym w.in-Name.is) (subst (Gains l.self (w.in-Name.name ∷ [])) (sym w.self-is) w.in_ok-add.ensures)
      | in_default w ↦ subst (Gains l.self (value_names v)) (sym w.self-is) (subst (λ ns. Gains l.self ns l.self) (sym (no_name v w.in_default.not-Name)) (gains_none l.self))
    ] in
    gains_more value_names c.args.values.now l.value-index v (omega arith) c.value-item.is l.invariant gained
