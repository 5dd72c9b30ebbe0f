use Rattle.std.proofs.Common.{◌≡◌, drop}
use Rattle.std.specs.List.{list_any}
use Rattle.command_line.specs.Refused.{is_of}
use Rattle.command_line.proofs.output.is_listed.Given as goal

-- whether the number is among those not yet compared is whether it is listed
abbrev pub invariant-loop-report : goal.invariant-loop-report
invariant-loop-report l = list_any (is_of l.number) (drop l.report-index l.refusals) ≡ list_any (is_of l.number) l.refusals
