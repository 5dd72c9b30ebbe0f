use Rattle.oim_names.proofs.Shared.{sym, ◌∙◌, is_eq-slice_cmp}
use Rattle.std.specs.Cmp.{Equal-is}
use Rattle.std.specs.Cmp.Lexicographic.{slice_cmp}
use Rattle.std.specs.Ordering.{nat_cmp}
use Rattle.oim_names.proofs.text.TextOrd.cmp.Goals as goal

pub returns-then-eq : goal.returns-then-eq
returns-then-eq c =
    let x = c.args.self.now in
    let y = c.args.other.now in
    sym ((Equal-is (slice_cmp nat_cmp x y)).0 (is_eq-slice_cmp x y ∙ sym c.eq.ensures ∙ c.if-eq.true))
