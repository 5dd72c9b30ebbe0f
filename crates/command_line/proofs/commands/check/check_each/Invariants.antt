use Rattle.std.proofs.Common.{◌≡◌, false, take}
use Rattle.command_line.specs.Checks.{Checks}
use Rattle.command_line.specs.Why.{WithRead}
use Rattle.command_line.specs.Words.{name_texts}
use Rattle.command_line.proofs.commands.check.check_each.Given as goal

-- the reports with the names so far were read and checked
abbrev pub invariant-loop-index : goal.invariant-loop-index
invariant-loop-index g l = record {
  files : l.inputs.files ≡ l.fn.inputs.files;
  console : l.fn.inputs.console.is_terminal ≡ false → l.inputs.console ≡ l.fn.inputs.console;
  read : WithRead (g.F.Folder.gives l.fn.inputs.files.now) (name_texts (take l.index l.fn.inputs.names.now))
      (λ reports. Checks l.fn.format (name_texts l.fn.inputs.names.now) l.sheet reports l.batch.text.items l.batch.refusals);
}
