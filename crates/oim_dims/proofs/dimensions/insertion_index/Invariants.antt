use Rattle.oim_dims.proofs.Indices.{IsPast}
use Rattle.oim_dims.proofs.dimensions.insertion_index.Given as goal

abbrev pub invariant-loop-i : goal.invariant-loop-i
invariant-loop-i l = IsPast l.name l.members l.i
