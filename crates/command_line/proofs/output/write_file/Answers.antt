use Rattle.std.proofs.Common.{◌≡◌, [], ap, ◌∙◌, subst, sym, None, Some, ℕ, List, inl, inr}
use Rattle.std.specs.Io.KnownBytes.{Appends, Keeps}
use Rattle.std.specs.Prelude.{◌≢◌, MatchResult, string_bytes}
use Rattle.command_line.specs.Page.{EndsWith, IsPlaced, world}
use Rattle.command_line.specs.Words.{name_texts, task_of}
use Rattle.command_line.proofs.Ends.{of_error}
use Rattle.command_line.proofs.Requests.{faulted, settled, unwritten}
use Rattle.command_line.proofs.output.write_file.Goals as goal
use Rattle.command_line.proofs.output.write_file.Goals.{then-is_err, else-is_err}

pub returns-in_err-beside-clause-ends : goal.returns-in_err-beside-clause-ends
returns-in_err-beside-clause-ends g c =
    let inputs = c.args.inputs.now in
    let gives = g.F.Folder.gives inputs.files.now in
    let fails = g.F.Folder.fails inputs.files.now in
    let texts = name_texts inputs.names.now in
    let task = task_of c.args.args.now.request in
    let name = c.args.name.now in
    let disk = c.args.disk.now in
    let file = g.D.Disk.file in
    let e = c.in_err-beside.field-0.0 in
    of_error (λ r. (part : List ℕ) × EndsWith gives fails inputs.bundle.now texts (Some name) task part r × IsPlaced (g.D.Disk.empty disk) (g.D.Disk.free disk) (world None (file disk)) (world None (file c.create_beside.new.self)) name part r)
    c.from_residual.result e c.from_residual.ensures.1
    ([], unwritten gives fails inputs.bundle.now texts task name e c.in_err-beside.ensures.err, c.create_beside.ensures.old)

pub returns-clause-ends : goal.returns-clause-ends
returns-clause-ends g c =
    let inputs = c.args.inputs.now in
    let gives = g.F.Folder.gives inputs.files.now in
    let fails = g.F.Folder.fails inputs.files.now in
    let texts = name_texts inputs.names.now in
    let task = task_of c.args.args.now.request in
    let contents = g.D.New.Write.contents in
    let file = g.D.Disk.file in
    let name = c.args.name.now in
    let disk = c.args.disk.now in
    let empty = g.D.Disk.empty disk in
    let mid = contents c.execute-done.new.out.sink.writer in
    let start : contents c.new-sink.result.sink.writer ≡ empty = (λ i. contents (c.new-sink.ensures.sink i).writer) ∙ ap contents c.new.ensures.writer ∙ c.in_ok-beside.ensures.empty in
    let taken : contents c.into_inner.result ≡ mid = ap contents c.into_inner.ensures ∙ (λ i. contents (c.into_inner-sink.ensures i).writer) in
    let kept : file c.if-is_err.disk name ≡ file c.settle-done.new.disk name =
    elim c.if-is_err.branch [
      | then-is_err w ↦
          ap (λ d. file d name) w.disk-is
          ∙ w.remove.ensures name (λ same. c.in_ok-beside.ensures.beside (sym w.as_str-then-is_err.ensures.value ∙ sym same))
      | else-is_err w ↦ ap (λ d. file d name) w.disk-is
    ] in
    let result = c.settle-done.result in
    let placed = subst (λ old. MatchResult result (λ success. Keeps mid (file c.if-is_err.disk name)) (λ e. file c.if-is_err.disk name ≡ old)) c.create_beside.ensures.old
    (subst (λ new. MatchResult result (λ success. Keeps mid new) (λ e. new ≡ file c.create_beside.new.self name)) (sym kept)
    (subst (λ m. MatchResult result (λ success. Keeps m (file c.settle-done.new.disk name)) (λ e. file c.settle-done.new.disk name ≡ file c.create_beside.new.self name)) taken c.settle-done.ensures.placed)) in
    let p = c.execute-done.ensures.ends in
    settled gives fails inputs.bundle.now texts task name empty mid (g.D.Disk.free disk) (world None (file disk)) (world None (file c.if-is_err.disk)) c.stopped_by-done.result result c.settle-done.ensures.done placed
    p.part (faulted gives fails inputs.bundle.now texts task c.execute-done.result c.stopped_by-done.result c.stopped_by-done.ensures p.part p.ends) (subst (λ o. Appends o mid p.part) start p.appended)

pub returns-in_err-beside-clause-others : goal.returns-in_err-beside-clause-others
returns-in_err-beside-clause-others g c = inl (λ other apart. c.in_err-beside.ensures.none other)

pub returns-clause-others : goal.returns-clause-others
returns-clause-others g c =
    let file = g.D.Disk.file in
    let beside = string_bytes c.in_ok-beside.field-0.name in
    inr (
      beside,
      c.in_ok-beside.ensures.free,
      λ other apart aside.
          let named : other ≢ c.as_str.result.now = λ is. aside (is ∙ c.as_str.ensures.value) in
          let settled = c.settle-done.ensures.others other apart named ∙ c.in_ok-beside.ensures.others other aside in
          elim c.if-is_err.branch [
            | then-is_err w ↦ ap (λ d. file d other) w.disk-is ∙ w.remove.ensures other (λ is. aside (is ∙ w.as_str-then-is_err.ensures.value)) ∙ settled
            | else-is_err w ↦ ap (λ d. file d other) w.disk-is ∙ settled
          ],
    )
