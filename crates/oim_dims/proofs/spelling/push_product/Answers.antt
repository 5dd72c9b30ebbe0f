use Rattle.std.proofs.Common.{arith}
use Rattle.oim_dims.proofs.Products.{product_next, written_on}
use Rattle.oim_dims.proofs.spelling.push_product.Goals as goal

pub loop-name-preserved : goal.loop-name-preserved
loop-name-preserved g c = λ m is.
    let next = product_next (g.S.Spelling.spelled c.args.spelling.now) m c.name-item.result c.in-Some.others.now c.loop-name.name-index (omega arith) c.name-item.is in
    let so_far = c.loop-name.invariant m is in
    let measure = c.in_ok-push_name-2.ensures in
    written_on _ _ _ _ _ _ _ c.in_ok-push_str.ensures.bytes measure so_far next
