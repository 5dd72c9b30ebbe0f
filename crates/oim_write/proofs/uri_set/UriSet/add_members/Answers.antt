use Rattle.oim_write.proofs.Shared.{◌≡◌, [], ◌∷◌, refl, sym, subst, arith, QName, Member, Name, defined_names, Gains}
use Rattle.oim_write.proofs.UriSets.{gains_both, gains_more}
use Rattle.oim_write.proofs.uri_set.UriSet.add_members.Goals as goal
use Rattle.oim_write.proofs.uri_set.UriSet.add_members.Goals.{in-Name+in_ok-add-2, in_default}

no_member : (k : QName) (m : Member) → ((n : QName) → m ≡ Name n → ⊥) → defined_names (k, m) ≡ k ∷ []
no_member k (Name n) other = absurd (other n refl)
no_member k m other = refl

pub loop-name-preserved : goal.loop-name-preserved
loop-name-preserved c =
    let l = c.loop-name in
    let e = c.loop-name-item.result in
    let gained : Gains l.self (defined_names e) c.match-member.self = elim c.match-member.branch [
      | in-Name+in_ok-add-2 w ↦
          subst (λ m. Gains l.self (defined_names (e.0, m)) c.match-member.self) (sym w.in-Name.is)
          (subst (Gains l.self (e.0 ∷ w.in-Name.name ∷ [])) (sym w.self-is) (gains_both c.in_ok-add.ensures w.in_ok-add-2.ensures))
      | in_default w ↦ subst (Gains l.self (defined_names e)) (sym w.self-is) (subst (λ ns. Gains l.self ns c.add.new.self) (sym (no_member e.0 e.1 w.in_default.not-Name)) c.in_ok-add.ensures)
    ] in
    gains_more defined_names c.args.members.now l.name-index e (omega arith) c.loop-name-item.is l.invariant gained
