use Rattle.oim_report.proofs.Shared.{option_map, Some, refl, sym, ap, subst, ◌∙◌, on_ok_weaker, BeginsWith, no_members, IsBeside}
use Rattle.oim_report.proofs.TapedFacts.{taped_piece}
use Rattle.oim_report.proofs.pieces.beside.read_beside.Goals as goal

pub returns-in_default : goal.returns-in_default
returns-in_default c = (no_members, subst (λ o. IsBeside o no_members) (sym (ap (λ o. option_map (λ t. t.now) o) c.in_default.is)) refl, (λ all own like. like))

pub returns-in-Some-only_object : goal.returns-in-Some-only_object
returns-in-Some-only_object c =
    let text = c.in-Some.text.now in
    let v = c.in_ok-tape.ensures in
    let object = c.in-Some-only_object.ensures v.0 (subst (λ t. BeginsWith t v.0) (sym c.root.ensures.same) v.2) in
    let whole = v.1 ∙ ap (λ x. Some x) object.1 in
    on_ok_weaker c.read_members.result
    (λ a. (a.ms, subst (λ o. IsBeside o a.ms) (sym (ap (λ o. option_map (λ t. t.now) o) c.in-Some.is)) (taped_piece text object.0 a.ms whole a.reads a.flat a.some), a.adds))
    (c.read_members.ensures object.0 object.2)
