use Rattle.std.proofs.Common.{Err, subst, sym}
use Rattle.command_line.specs.Endings.{Is, IsCut, Prints, PutsText}
use Rattle.command_line.specs.Faults.{IsOutputError}
use Rattle.command_line.specs.Page.{CommandEnds, Says, Under}
use Rattle.command_line.specs.Words.{check, name_texts}
use Rattle.command_line.proofs.Ends.{begins, of_error, stops_first}
use Rattle.command_line.proofs.Why.{output_under}
use Rattle.command_line.proofs.commands.check.run.Goals as goal

pub returns-in_err-put_bytes-clause-ends : goal.returns-in_err-put_bytes-clause-ends
returns-in_err-put_bytes-clause-ends g c =
    let gives = g.F.Folder.gives c.args.inputs.now.files.now in
    let fails = g.F.Folder.fails c.args.inputs.now.files.now in
    let names = name_texts c.args.inputs.now.names.now in
    let sheet = c.args.sheet.now in
    let work = check c.args.format in
    let old = g.S.Sink.told c.args.out.now in
    let new = g.S.Sink.told c.put_bytes.new.out in
    let batch = c.in_ok-text.field-0 in
    let text = batch.text.items in
    let says = Says gives names sheet work in
    let e = c.in_err-put_bytes.field-0.0 in
    let put = subst (λ t. Prints (PutsText t) old new (Err e)) c.as_slice.ensures.value c.in_err-put_bytes.ensures.put in
    of_error (Prints (CommandEnds gives fails names sheet work) old new) c.from_residual-in_err-put_bytes.result e c.from_residual-in_err-put_bytes.ensures.1
    (stops_first (Is text) IsOutputError (IsCut (Is text)) says (Under gives fails names sheet work) (IsCut says) e (output_under gives fails names sheet work e)
    (λ t cut. begins (IsCut says) e t (cut.0, batch.refusals, subst (λ x. says x batch.refusals) (sym cut.2) c.in_ok-text.ensures.ok)) old new put)
