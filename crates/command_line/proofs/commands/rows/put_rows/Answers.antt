use Rattle.command_line.specs.Endings.{Prints, Puts}
use Rattle.command_line.specs.Faults.{IsOutputError, error_of}
use Rattle.command_line.specs.Outputs.{AreVerdicts}
use Rattle.command_line.specs.declared.print_format.PrintFormat.TheVariants.{Rows}
use Rattle.command_line.proofs.Ends.{of_error}
use Rattle.command_line.proofs.Faults.{verdicts_stop}
use Rattle.command_line.proofs.commands.rows.put_rows.Goals as goal

pub returns-in_err-written : goal.returns-in_err-written
returns-in_err-written g c =
    let old = g.S.Sink.told c.args.out.now.sink in
    let new = g.S.Sink.told c.write_verdicts-written.new.out.sink in
    let merged = c.args.merged in
    let f = c.in_err-written.field-0.0 in
    of_error (Prints (Puts (AreVerdicts (Rows c.args.format) merged.base.body merged.refusals) IsOutputError) old new) c.from_residual.result (error_of f) c.from_residual.ensures.1
    (verdicts_stop old new (Rows c.args.format) merged.base.body merged.refusals f c.in_err-written.ensures.err)
