use Rattle.std.proofs.Common.{Err, subst, sym}
use Rattle.command_line.specs.Endings.{Prints, Puts}
use Rattle.command_line.specs.Faults.{IsOutputError, error_of}
use Rattle.command_line.specs.Outputs.{AreSources}
use Rattle.command_line.specs.Words.{name_texts}
use Rattle.command_line.specs.declared.print_format.PrintFormat.TheVariants.{Lines, Rows}
use Rattle.command_line.proofs.Ends.{of_error}
use Rattle.command_line.proofs.Faults.{sources_stop}
use Rattle.command_line.proofs.commands.rows.put_sources.Goals as goal

pub returns-in_err-finish-in-Lines : goal.returns-in_err-finish-in-Lines
returns-in_err-finish-in-Lines g c =
    let old = g.S.Sink.told c.args.out.now in
    let new = g.S.Sink.told c.finish.new.out in
    let names = name_texts c.args.files.now in
    let t = c.args.merge in
    let f = c.in_err-finish-in-Lines.field-0.0 in
    of_error (Prints (Puts (AreSources c.args.format names t) IsOutputError) old new) c.from_residual.result (error_of f) c.from_residual.ensures.1
    (subst (λ format. Prints (Puts (AreSources format names t) IsOutputError) old new (Err (error_of f))) (sym c.in-Lines.is)
    (sources_stop old new Lines names t f c.in_err-finish-in-Lines.ensures.err))

pub returns-in_err-finish-in-Rows : goal.returns-in_err-finish-in-Rows
returns-in_err-finish-in-Rows g c =
    let old = g.S.Sink.told c.args.out.now in
    let new = g.S.Sink.told c.finish-in-Rows.new.out in
    let names = name_texts c.args.files.now in
    let t = c.args.merge in
    let f = c.in_err-finish-in-Rows.field-0.0 in
    of_error (Prints (Puts (AreSources c.args.format names t) IsOutputError) old new) c.from_residual-in_err-finish-in-Rows.result (error_of f) c.from_residual-in_err-finish-in-Rows.ensures.1
    (subst (λ format. Prints (Puts (AreSources format names t) IsOutputError) old new (Err (error_of f))) (sym c.in-Rows.is)
    (sources_stop old new (Rows c.in-Rows.format) names t f c.in_err-finish-in-Rows.ensures.err))
