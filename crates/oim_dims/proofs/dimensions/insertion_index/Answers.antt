use Rattle.oim_dims.proofs.Shared.{◌≡◌, sym, false, arith, has_name}
use Rattle.oim_dims.proofs.Indices.{below_here}
use Rattle.oim_dims.proofs.dimensions.insertion_index.Goals as goal

pub returns-in-Less-clause-there : goal.returns-in-Less-clause-there
returns-in-Less-clause-there c =
    let none : has_name c.args.name.now c.args.members.now ≡ false = below_here c.args.name.now c.args.members.now c.loop-i.i c.index-members-i.result (omega arith) c.index-members-i.is (sym c.in-Less.ensures) c.loop-i.invariant in
    (λ e. cc, λ t. cc (rw none at t))
