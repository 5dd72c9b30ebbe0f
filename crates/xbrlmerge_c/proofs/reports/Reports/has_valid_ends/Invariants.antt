use Rattle.std.proofs.Common.{drop, length}
use Rattle.std.specs.Prelude.{◌↔◌}
use Rattle.xbrlmerge_c.specs.Ends.{AreEndsFrom}
use Rattle.xbrlmerge_c.specs.code.Reports.{HasValidEnds}
use Rattle.xbrlmerge_c.proofs.reports.Reports.has_valid_ends.Given as goal

-- all ends are valid exactly if the remaining ends are valid from position `from` on
abbrev pub invariant-loop-end : goal.invariant-loop-end
invariant-loop-end l = AreEndsFrom l.from (length l.self.bytes.now) (drop l.end-index l.self.ends.now) ↔ HasValidEnds l.self
