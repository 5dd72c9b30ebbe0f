use Rattle.oim_dims.proofs.Shared.{◌≡◌, None, All, err_from_is_err_and, slice_split, name_refusal, is_star}
use Rattle.oim_dims.proofs.Naming.{unit_named}
use Rattle.oim_dims.proofs.unit_text.read_sides.Goals as goal

pub returns-in_err-denominators-in-Some-clause-errors :
    goal.returns-in_err-denominators-in-Some-clause-errors
returns-in_err-denominators-in-Some-clause-errors c accepted =
    let side = rw c.in-Some.is at c.sides.ensures.denominators in
    let free : All (λ p. name_refusal c.args.aliases.now p ≡ None) (slice_split is_star c.in-Some.side.now) = rw side (unit_named c.args.aliases.now c.args.text.now accepted).denominators in
    let p = err_from_is_err_and c.from_residual-in_err-denominators-in-Some.result c.from_residual-in_err-denominators-in-Some.ensures.1 in
    rw (p.1, p.2) (c.in_err-denominators-in-Some.ensures.errors free)
