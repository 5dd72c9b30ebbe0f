use Rattle.std.proofs.Common.{◌-◌}
use Rattle.std.specs.FinMap as map
use Rattle.oim_report.proofs.Ranks.{IsSearched}
use Rattle.oim_report.proofs.sheet.ranked_names.RankedNames.find_in.Given as goal

abbrev pub invariant-loop-low : goal.invariant-loop-low
invariant-loop-low g l = IsSearched (map.entries l.self) (record { uri = l._uri; local_part = l.local }) l.fn.span l.low l.high

abbrev pub decreases-loop-low : goal.decreases-loop-low
decreases-loop-low g l = l.high - l.low
