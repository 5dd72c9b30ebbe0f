use Rattle.oim_report.proofs.Shared.{◌≡◌, false, is_lt, level_cmp}
use Rattle.oim_report.proofs.Passed.{Passed}
use Rattle.oim_report.proofs.document.duplicates.level_within.Given as goal

-- the level so far is the level of the facts so far, and is not above the limit
abbrev pub invariant-loop-index : goal.invariant-loop-index
invariant-loop-index l = Passed l.facts l.order l.rest l.index-index l.last l.shared l.level × (is_lt (level_cmp l.limit l.level) ≡ false)
