use Rattle.oim_dims.proofs.Shared.{◌≡◌, drop, list_all, zip, matches_picture, picture}
use Rattle.oim_dims.proofs.moment.has_picture.Given as goal

-- the result depends only on the remaining indices
abbrev pub invariant-loop-i : goal.invariant-loop-i
invariant-loop-i l = list_all matches_picture (zip (drop l.i picture) (drop l.i l.text)) ≡ list_all matches_picture (zip picture l.text)
