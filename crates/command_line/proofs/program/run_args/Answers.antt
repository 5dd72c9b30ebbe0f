use Rattle.std.proofs.Common.{ℕ, List, ap, inl, subst}
use Rattle.command_line.specs.Page.{NamesEnd, world}
use Rattle.command_line.specs.Words.{asked_of}
use Rattle.command_line.proofs.Steps.{runs_more, step_failed}
use Rattle.command_line.proofs.program.run_args.Goals as goal

pub returns-in-Ok : goal.returns-in-Ok
returns-in-Ok g c =
    let folder = c.args.folder.now in
    let disk = c.args.disk.now in
    let ends = NamesEnd (g.D.Disk.empty disk) (g.D.Disk.free disk) (world (g.O.Write.contents c.args.out) (g.D.Disk.file disk)) (world (g.O.Write.contents c.run_named.result.out) (g.D.Disk.file c.run_named.new.disk)) (g.F.Folder.gives folder) (g.F.Folder.fails folder) in
    runs_more (λ part done run. inl (c.in-Ok.bytes, c.in-Ok.ensures.ok, subst (λ (bytes : List ℕ). ends (asked_of c.args.args.now) bytes part done) c.as_bytes.ensures run)) c.run_named.ensures

pub returns-in-Err : goal.returns-in-Err
returns-in-Err g c = step_failed (g.D.Disk.empty c.args.disk.now) (g.D.Disk.free c.args.disk.now) c.in-Err.error c.in-Err.ensures.err (ap g.O.Write.contents c.ended.ensures.out) c.ended.ensures.status c.ended.ensures.lines
