use Rattle.std.proofs.Common.{◌≡◌, false}
use Rattle.oim_write.specs.BoundedSink.{bounded_failures}
use Rattle.command_line.proofs.Explained.{HasListed}
use Rattle.command_line.proofs.commands.explain.put_each.Given as goal

-- the lines of the sheet and of the reports so far were appended, the same files are read, neither the sink nor its bound has
-- failed since the call began, and standard error stays as it is unless it is a terminal
abbrev pub invariant-loop-index : goal.invariant-loop-index
invariant-loop-index g l = record {
  lists : HasListed (g.F.Folder.gives l.fn.inputs.files.now) l.known.format l.known.names.now.sheet.now l.known.repeated.now (g.F.Folder.fails l.fn.inputs.files.now) l.fn.inputs.names.now l.index (g.S.Sink.told l.fn.out.sink) (g.S.Sink.told l.out.sink) l.counts;
  files : l.inputs.files ≡ l.fn.inputs.files;
  same : l.inputs.names ≡ l.fn.inputs.names;
  failures : bounded_failures (g.S.Sink.failures l.out.sink) l.out.overruns ≡ bounded_failures (g.S.Sink.failures l.fn.out.sink) l.fn.out.overruns;
  console : l.fn.inputs.console.is_terminal ≡ false → l.inputs.console ≡ l.fn.inputs.console;
}
