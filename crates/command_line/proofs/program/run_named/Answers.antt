use Rattle.std.proofs.Common.{List, ap, inl, subst}
use Rattle.std.specs.Borrow.{Bor}
use Rattle.clap.specs.Words.{Text}
use Rattle.command_line.specs.Page.{TaskEnds, world}
use Rattle.command_line.specs.Words.{asked_of, name_texts}
use Rattle.command_line.proofs.Steps.{runs_more, step_failed}
use Rattle.command_line.proofs.program.run_named.Goals as goal

pub returns-in-Ok : goal.returns-in-Ok
returns-in-Ok g c =
    let folder = c.args.folder.now in
    let disk = c.args.disk.now in
    let ends = TaskEnds (g.D.Disk.empty disk) (g.D.Disk.free disk) (world (g.O.Write.contents c.args.out) (g.D.Disk.file disk)) (world (g.O.Write.contents c.run_request.result.out) (g.D.Disk.file c.run_request.new.disk)) (g.F.Folder.gives folder) (g.F.Folder.fails folder) in
    runs_more (λ part done run. inl (name_texts c.in-Ok.names.items, c.in-Ok.ensures.ok, subst (λ (names : List (Bor Text)). ends (asked_of c.args.args.now) c.args.bytes.now (name_texts names) part done) c.as_slice.ensures.value run)) c.run_request.ensures

pub returns-in-Err : goal.returns-in-Err
returns-in-Err g c = step_failed (g.D.Disk.empty c.args.disk.now) (g.D.Disk.free c.args.disk.now) c.in-Err.error c.in-Err.ensures.err (ap g.O.Write.contents c.ended.ensures.out) c.ended.ensures.status c.ended.ensures.lines
