use Rattle.std.proofs.Common.{◌∙◌}
use Rattle.clap.specs.Words.{found_of}
use Rattle.command_line.proofs.RowReads.{source-rows}
use Rattle.command_line.proofs.matches.source_in.Goals as goal

pub returns : goal.returns
returns c = c.value_source.ensures ∙ source-rows (found_of c.args.matches.now) c.args.id.now
