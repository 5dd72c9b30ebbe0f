use Rattle.std.proofs.Common.{take, drop, inr, refl, sym, take-append-drop}
use Rattle.command_line.proofs.commands.put_bytes.Goals as goal

pub returns-in-Err-clause-put : goal.returns-in-Err-clause-put
returns-in-Err-clause-put g c =
    let bytes = c.args.bytes.now in
    let n = c.in-Err.taken in
    record { part = take n bytes; ends = (tt, inr (bytes, drop n bytes, (tt, tt, refl), sym (take-append-drop n bytes))); appended = c.in-Err.ensures.err.0 }
