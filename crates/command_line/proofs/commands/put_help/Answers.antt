use Rattle.std.proofs.Common.{[], refl}
use Rattle.command_line.specs.Endings.{Is, IsCut, Prints, Puts}
use Rattle.command_line.specs.Faults.{IsOutputError}
use Rattle.command_line.specs.Page.{Helps}
use Rattle.command_line.proofs.Ends.{begins, of_error, stops_first}
use Rattle.command_line.proofs.commands.put_help.Goals as goal

pub returns-in_err-put_text : goal.returns-in_err-put_text
returns-in_err-put_text g c =
    let old = g.S.Sink.told c.args.out.now in
    let new = g.S.Sink.told c.put_text.new.out in
    let text = c.as_str.result.now in
    let e = c.in_err-put_text.field-0.0 in
    of_error (Prints (Puts Helps IsOutputError) old new) c.from_residual-in_err-put_text.result e c.from_residual-in_err-put_text.ensures.1
    (stops_first (Is text) IsOutputError (IsCut (Is text)) Helps IsOutputError (IsCut Helps) e (λ why. why)
    (λ t cut. begins (IsCut Helps) e t (cut.0, [], refl)) old new c.in_err-put_text.ensures.put)
