use Rattle.std.proofs.Common.{◌≡◌, ap, ◌∙◌, subst}
use Rattle.std.specs.Io.KnownBytes.{Appends, Keeps}
use Rattle.std.proofs.KnownBytes.{Appends-kept}
use Rattle.command_line.specs.Words.{name_texts, task_of}
use Rattle.command_line.proofs.Requests.{faulted}
use Rattle.command_line.proofs.output.write_out.Goals as goal

pub returns-clause-ends : goal.returns-clause-ends
returns-clause-ends g c =
    let inputs = c.args.inputs.now in
    let contents = g.O.Write.contents in
    let old = contents c.args.out in
    let mid = contents c.execute-done.new.out.sink.writer in
    let new = contents c.flushed.result.1 in
    let start : contents c.new-sink.result.sink.writer ≡ old = (λ i. contents (c.new-sink.ensures.sink i).writer) ∙ ap contents c.new.ensures.writer in
    let taken : contents c.into_inner.result ≡ mid = ap contents c.into_inner.ensures ∙ (λ i. contents (c.into_inner-sink.ensures i).writer) in
    let p = c.execute-done.ensures.ends in
    let same = faulted (g.F.Folder.gives inputs.files.now) (g.F.Folder.fails inputs.files.now) inputs.bundle.now (name_texts inputs.names.now) (task_of c.args.args.now.request) in
    record {
      part = p.part;
      ends = same c.stopped_by.result c.flushed.result.0 c.flushed.ensures.done p.part (same c.execute-done.result c.stopped_by.result c.stopped_by.ensures p.part p.ends);
      appended = Appends-kept old mid new p.part (subst (λ o. Appends o mid p.part) start p.appended) (subst (λ m. Keeps m new) taken c.flushed.ensures.out);
    }
