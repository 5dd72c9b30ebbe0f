use Rattle.command_line.proofs.OneRun.{runs_are_one}
use Rattle.command_line.proofs.laws.runs_are_one.Goals as goal

pub returns : goal.returns
returns c = runs_are_one
