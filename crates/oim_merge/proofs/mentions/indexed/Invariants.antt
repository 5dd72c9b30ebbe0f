use Rattle.oim_merge.proofs.Shared.{◌≡◌, map, all_indexed, lent}
use Rattle.oim_merge.proofs.mentions.indexed.Given as goal

abbrev pub invariant-loop-mention : goal.invariant-loop-mention
invariant-loop-mention l = l.indexed.items ≡ all_indexed (map lent l.facts) l.yielded
