use Rattle.oim_dims.proofs.Shared.{map, AllZip, Expands}
use Rattle.oim_dims.proofs.unit_text.names_of.Given as goal

-- the names are the expansions of the pieces so far
abbrev pub invariant-loop-piece : goal.invariant-loop-piece
invariant-loop-piece l = AllZip (Expands l.aliases) (map (λ x. x.now) l.yielded) l.names.items
