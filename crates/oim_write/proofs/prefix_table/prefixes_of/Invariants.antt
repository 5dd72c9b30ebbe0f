use Rattle.oim_write.proofs.Shared.{◌≡◌, map, take, string_bytes, prefix}
use Rattle.oim_write.proofs.prefix_table.prefixes_of.Given as goal

abbrev pub invariant-loop-index : goal.invariant-loop-index
invariant-loop-index l = map string_bytes l.prefixes.items ≡ map (prefix l.uris) (take l.index l.uris)
