use Rattle.std.proofs.Common.{◌≡◌, ◌++◌, rules}
use Rattle.oim_write.proofs.Passing.{Passes-waiting, Breaks-pushed}
use Rattle.oim_write.proofs.sink_buffer.SinkBuffer.push.Goals as goal

pub returns-then-len-lt-CHUNK-clause-ok : goal.returns-then-len-lt-CHUNK-clause-ok
returns-then-len-lt-CHUNK-clause-ok g c =
    let grown : c.extend_from_slice.new.self.items ≡ c.self.inside.buffer.items ++ c.args.bytes.now = search rules in
    rw (← c.self.view_is, grown) (Passes-waiting _ _ c.args.bytes.now)

pub returns-clause-err : goal.returns-clause-err
returns-clause-err g c =
    let grown : c.extend_from_slice.new.self.items ≡ c.self.inside.buffer.items ++ c.args.bytes.now = search rules in
    let broken = rw grown at c.flush.ensures.err in
    rw (← c.self.view_is) (Breaks-pushed _ _ _ c.args.bytes.now c.flush.result broken)
