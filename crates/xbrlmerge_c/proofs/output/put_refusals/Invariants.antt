use Rattle.std.proofs.Common.{◌≡◌, ◌++◌, drop, take}
use Rattle.xbrlmerge_c.specs.Refusals.{refused_reports}
use Rattle.xbrlmerge_c.proofs.output.put_refusals.Given as goal

abbrev pub invariant-loop-index : goal.invariant-loop-index
invariant-loop-index l = l.refusals ≡ refused_reports (take l.index l.found) ++ drop l.index l.initial.refusals
