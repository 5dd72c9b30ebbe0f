use Rattle.oim_dims.proofs.Shared.{◌≡◌, ◌∙◌, length, [], ◌∷◌, ap, arith, sym, pure_name, nil_from_length}
use Rattle.oim_dims.proofs.Naming.{zero_is, alone_is, head_is}
use Rattle.oim_dims.proofs.unit_text.is_pure_alone.Goals as goal

pub returns : goal.returns
returns c =
    let one : length c.args.numerators.now ≡ 1 = omega (arith, c.if-numerators-ne1.false) in
    let none : c.args.denominators.now ≡ [] = nil_from_length c.args.denominators.now (zero_is _ _ c.is_empty.ensures c.if-not-is_empty.false) in
    let all = alone_is c.args.numerators.now c.index-numerators-0.result one c.index-numerators-0.is in
    (λ t. (all ∙ ap (λ n. n ∷ []) (c.is_pure.ensures.0 t), none), λ h. c.is_pure.ensures.1 (head_is c.index-numerators-0.result pure_name (sym all ∙ h.0)))
