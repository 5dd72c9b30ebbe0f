use Rattle.oim_dims.proofs.Indices.{still_rises}
use Rattle.oim_dims.proofs.dimensions.Dimensions.add.Goals as goal

pub invariant_of-self-in-Some : goal.invariant_of-self-in-Some
invariant_of-self-in-Some c =
    let members = c.as_slice.ensures in
    let there = rw members at c.in-Some.ensures.there in
    let indexed = rw members at (c.in-Some.ensures.index c.args.member) in
    still_rises c.insert.result c.insert.new.self c.self.inside.members c.in-Some.index c.args.name c.args.member c.self.invariant (λ t. cc (there.1 t)) indexed c.insert.ensures.ok c.insert.ensures.err
