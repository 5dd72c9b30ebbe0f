use Rattle.oim_dims.proofs.Indices.{members_grow, names_are_there}
use Rattle.oim_dims.proofs.laws.members_grow.Goals as goal

pub returns : goal.returns
returns c = record { there = names_are_there; more = members_grow }
