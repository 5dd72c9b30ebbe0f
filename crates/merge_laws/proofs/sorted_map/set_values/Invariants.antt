use Rattle.merge_laws.proofs.Shared.{◌≡◌, vec_len, vec_capacity, with_values}
use Rattle.merge_laws.proofs.sorted_map.set_values.Given as goal

abbrev pub invariant-loop-index : goal.invariant-loop-index
invariant-loop-index g l = record {
  items : l.entries.items ≡ with_values l.initial.entries.items l.yielded;
  len : vec_len l.entries ≡ vec_len l.initial.entries;
  storage : vec_capacity l.entries ≡ vec_capacity l.initial.entries;
}
