use Rattle.std.proofs.Common.{◌≡◌, take}
use Rattle.oim_report.proofs.sheet.ranked_names.RankedNames.same_as.Given as goal

abbrev pub invariant-loop-i : goal.invariant-loop-i
invariant-loop-i g l = take l.i l.names ≡ take l.i l.others
