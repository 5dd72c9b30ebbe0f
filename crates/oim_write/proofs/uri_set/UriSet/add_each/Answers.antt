use Rattle.std.proofs.Common.{arith}
use Rattle.oim_write.proofs.UriSets.{gains_name}
use Rattle.oim_write.proofs.uri_set.UriSet.add_each.Goals as goal

pub loop-name-preserved : goal.loop-name-preserved
loop-name-preserved c = gains_name c.args.names.now c.loop-name.name-index c.name-item.result (omega arith) c.name-item.is c.loop-name.invariant c.in_ok-add.ensures
