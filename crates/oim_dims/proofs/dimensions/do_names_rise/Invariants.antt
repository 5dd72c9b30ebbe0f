use Rattle.oim_dims.proofs.Shared.{◌≡◌, ◌∷◌, drop, rises}
use Rattle.oim_dims.proofs.dimensions.do_names_rise.Given as goal

-- all names ascend exactly if the last compared name and the remaining names ascend
abbrev pub invariant-loop-member : goal.invariant-loop-member
invariant-loop-member l = rises l.members ≡ rises (l.last ∷ drop l.member-index l.rest)
