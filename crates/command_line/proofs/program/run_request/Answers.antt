use Rattle.std.proofs.Common.{◌∙◌, ap, subst, sym}
use Rattle.std.specs.Prelude.{IfSome}
use Rattle.std.specs.Io.KnownBytes.{Appends}
use Rattle.command_line.specs.Page.{TaskEnds, world}
use Rattle.command_line.specs.Printed.{lines_of}
use Rattle.command_line.specs.Words.{asked_of, name_texts}
use Rattle.command_line.proofs.program.run_request.Goals as goal

pub returns : goal.returns
returns g c =
    let inputs = c.args.inputs in
    let disk = c.args.disk.now in
    let done = c.write-done.result.0 in
    let ran = c.write-done.ensures.ends in
    let contents = g.E.Write.contents in
    record {
      part = ran.0;
      done = done;
      ends = subst (λ out. TaskEnds (g.D.Disk.empty disk) (g.D.Disk.free disk) (world (g.O.Write.contents c.args.out) (g.D.Disk.file disk)) (world (g.O.Write.contents out) (g.D.Disk.file c.write-done.new.disk))
          (g.F.Folder.gives inputs.files.now) (g.F.Folder.fails inputs.files.now) (asked_of c.args.args.now) inputs.bundle.now (name_texts inputs.names.now) ran.0 done) (sym c.ended.ensures.out) ran.1;
      status_is = c.ended.ensures.status;
      lines = λ plain.
          let same = c.write-done.ensures.console plain.0 in
          subst (λ k. IfSome (lines_of done) (Appends (contents k.err) (contents c.ended.result.console.err))) same
          (c.ended.ensures.lines (ap (λ k. k.is_terminal) same ∙ plain.0, ap (λ k. k.is_verbose) same ∙ plain.1, plain.2));
    }
