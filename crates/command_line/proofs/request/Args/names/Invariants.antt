use Rattle.std.proofs.Common.{◌≡◌, ◌++◌, map}
use Rattle.std.specs.List.{filter}
use Rattle.command_line.specs.ReportNames.{has_text, without_return}
use Rattle.command_line.specs.Words.{name_texts}
use Rattle.command_line.proofs.request.Args.names.Given as goal

-- the names of the words, and those among the pieces so far
abbrev pub invariant-loop-name : goal.invariant-loop-name
invariant-loop-name l =
    name_texts l.all.items ≡ name_texts l.self.reports.items ++ filter has_text (map (without_return l.self.is_null) (name_texts l.yielded))
