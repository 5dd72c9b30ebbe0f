use Rattle.std.proofs.Common.{All, Contains, take}
use Rattle.fact_base.proofs.ordering.has_all.Given as goal

abbrev pub invariant-loop-other : goal.invariant-loop-other
invariant-loop-other g l = All (Contains l.items) (take l.other-index l.others)
