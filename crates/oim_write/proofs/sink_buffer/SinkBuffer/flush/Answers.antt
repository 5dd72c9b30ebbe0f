use Rattle.oim_write.proofs.Passing.{Breaks-first}
use Rattle.oim_write.proofs.sink_buffer.SinkBuffer.flush.Goals as goal

pub returns-in-Err-clause-err : goal.returns-in-Err-clause-err
returns-in-Err-clause-err g c =
    let told = g.S.Sink.told in
    let put = rw c.deref.ensures.value at c.in-Err.ensures.err in
    rw (← c.self.view_is, c.saturating_add.ensures) (Breaks-first (told c.args.sink.now) (told c.put_all.new.sink) _ c.in-Err.taken put)
