use Rattle.command_line.specs.declared.error.Error.TheVariants.{OutOfMemory}
use Rattle.command_line.proofs.Ends.{failed_first}
use Rattle.command_line.proofs.commands.rows.put_verdicts.Goals as goal

pub returns-in_err-merged : goal.returns-in_err-merged
returns-in_err-merged g c = failed_first c.from_residual.result OutOfMemory c.from_residual.ensures.1 tt
