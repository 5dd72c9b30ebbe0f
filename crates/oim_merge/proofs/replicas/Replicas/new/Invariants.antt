use Rattle.oim_merge.proofs.Shared.{◌≡◌, [], None, replicate, base_of}
use Rattle.oim_merge.proofs.replicas.Replicas.new.Given as goal

abbrev pub invariant-loop-made : goal.invariant-loop-made
invariant-loop-made l = record {
  bases : l.bases.items ≡ replicate l._made (base_of l.sheet []);
  current : l.current.items ≡ replicate l._made None;
}
