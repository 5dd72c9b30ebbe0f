use Rattle.std.proofs.Common.{◌≡◌, false, take}
use Rattle.std.specs.List.{AllZip}
use Rattle.command_line.specs.Words.{name_texts}
use Rattle.command_line.proofs.inputs.Inputs.read_reports.Given as goal

-- the reports with the names so far were read
abbrev pub invariant-loop-name : goal.invariant-loop-name
invariant-loop-name g l = record {
  files : l.self.files ≡ l.fn.self.files;
  console : l.fn.self.console.is_terminal ≡ false → l.self.console ≡ l.fn.self.console;
  read : AllZip (g.F.Folder.gives l.fn.self.files.now) (name_texts (take l.name-index l.names)) l.all.items;
}
