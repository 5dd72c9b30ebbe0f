use Rattle.oim_write.proofs.Shared.{◌≡◌, map, take, prefix}
use Rattle.oim_write.proofs.prefix_table.prefixes.Given as goal

-- the URIs so far are bound to their prefixes
abbrev pub invariant-loop-uri : goal.invariant-loop-uri
invariant-loop-uri l = l.aliases ≡ map (λ u. record { prefix = prefix l.uri-items u; uri = u }) (take l.uri-index l.uri-items)
