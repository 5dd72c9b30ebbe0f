use Rattle.oim_dims.proofs.Shared.{◌≡◌, ◌∷◌, ◌+◌, true, false, drop, sym, ap, ◌∙◌, is_lt, name_cmp, rises}
use Rattle.oim_dims.proofs.Rising.{at_index, rises_behind, falls_behind}
use Rattle.oim_dims.proofs.dimensions.do_names_rise.Goals as goal

pub returns-then-not-is_lt : goal.returns-then-not-is_lt
returns-then-not-is_lt c =
    let l = c.loop-member in
    let rest = c.in-Some.rest.now in
    let here = at_index rest l.member-index c.member-item.result c.loop-member-test.true c.member-item.is in
    let falls : is_lt (name_cmp l.last.now.0 c.member-item.result.0) ≡ false = ap is_lt (sym c.cmp.ensures) ∙ sym c.is_lt.ensures ∙ c.if-not-is_lt.true in
    sym (l.invariant ∙ ap (λ es. rises (l.last.now ∷ es)) here ∙ falls_behind l.last.now c.member-item.result (drop (l.member-index + 1) rest) falls)

pub loop-member-preserved : goal.loop-member-preserved
loop-member-preserved c =
    let l = c.loop-member in
    let rest = c.in-Some.rest.now in
    let here = at_index rest l.member-index c.member-item.result c.loop-member-test.true c.member-item.is in
    let lesser : is_lt (name_cmp l.last.now.0 c.member-item.result.0) ≡ true = ap is_lt (sym c.cmp.ensures) ∙ sym c.is_lt.ensures ∙ c.if-not-is_lt.false in
    l.invariant ∙ ap (λ es. rises (l.last.now ∷ es)) here ∙ rises_behind l.last.now c.member-item.result (drop (l.member-index + 1) rest) lesser
