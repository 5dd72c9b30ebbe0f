use Rattle.std.proofs.Common.{◌∙◌, arith, sym}
use Rattle.oim_dims.proofs.Picture.{pictured_so_far, not_pictured}
use Rattle.oim_dims.proofs.moment.has_picture.Goals as goal

pub returns-then-not-matches_picture : goal.returns-then-not-matches_picture
returns-then-not-matches_picture c = sym (not_pictured c.loop-i.i c.args.text.now (omega arith) (omega arith) (sym c.matches_picture.ensures ∙ c.if-not-matches_picture.true) c.loop-i.invariant)

pub loop-i-preserved : goal.loop-i-preserved
loop-i-preserved c = pictured_so_far c.loop-i.i c.args.text.now (omega arith) (omega arith) (sym c.matches_picture.ensures ∙ c.if-not-matches_picture.false) c.loop-i.invariant
