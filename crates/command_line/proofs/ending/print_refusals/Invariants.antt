use Rattle.std.proofs.Common.{◌≡◌, false, take}
use Rattle.std.specs.Prelude.{Some}
use Rattle.command_line.specs.Printed.{Shows, refusal_lines}
use Rattle.command_line.proofs.ending.print_refusals.Given as goal

-- if each write succeeded, the lines of the refusals so far were appended
abbrev pub invariant-loop-report : goal.invariant-loop-report
invariant-loop-report g l =
    l.fn.console.is_verbose ≡ false → Shows g.E.Write.contents (Some (refusal_lines (take l.report-index l.fn.refusals))) l.initial.console l.console
