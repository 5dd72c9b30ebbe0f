use Rattle.std.proofs.Common.{◌≡◌, false, take}
use Rattle.oim_merge.specs.Added.{added}
use Rattle.command_line.specs.Why.{WithRead}
use Rattle.command_line.specs.Words.{name_texts}
use Rattle.command_line.proofs.inputs.Inputs.consolidate.Given as goal

-- the reports with the names so far were read and added
abbrev pub invariant-loop-index : goal.invariant-loop-index
invariant-loop-index g l = record {
  files : l.self.files ≡ l.fn.self.files;
  console : l.fn.self.console.is_terminal ≡ false → l.self.console ≡ l.fn.self.console;
  read : WithRead (g.F.Folder.gives l.fn.self.files.now) (name_texts (take l.index l.fn.self.names.now)) (λ reports. l.consolidation ≡ added l.fn.sheet reports);
  count : l.consolidation.reports ≡ l.index;
}
