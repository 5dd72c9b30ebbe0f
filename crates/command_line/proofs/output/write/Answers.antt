use Rattle.std.proofs.Common.{List, ℕ, Option, refl, subst, sym}
use Rattle.std.specs.Borrow.{Bor}
use Rattle.std.specs.Option.{option_map}
use Rattle.clap.specs.Words.{Text}
use Rattle.command_line.specs.Page.{EndsWith, Goes, world}
use Rattle.command_line.specs.Words.{name_texts, task_of}
use Rattle.command_line.proofs.output.write.Goals as goal

pub returns-in-Some-clause-ends : goal.returns-in-Some-clause-ends
returns-in-Some-clause-ends g c =
    let inputs = c.args.inputs.now in
    let disk = c.args.disk.now in
    let out = g.O.Write.contents c.args.out in
    let ends = c.write_file.ensures.ends in
    let Ends = EndsWith (g.F.Folder.gives inputs.files.now) (g.F.Folder.fails inputs.files.now) inputs.bundle.now (name_texts inputs.names.now) in
    let Went = Goes (g.D.Disk.empty disk) (g.D.Disk.free disk) (world out (g.D.Disk.file disk)) (world out (g.D.Disk.file c.write_file.new.disk)) in
    subst (λ (o : Option (Bor Text)). (part : List ℕ) × (Ends (option_map (λ name. name.now) o) (task_of c.args.args.now.request) part c.write_file.result × Went (option_map (λ name. name.now) o) part c.write_file.result))
    (sym c.in-Some.is) (ends.0, (ends.1, (ends.2, c.write_file.ensures.others, refl)))

pub returns-in-None-clause-ends : goal.returns-in-None-clause-ends
returns-in-None-clause-ends g c =
    let inputs = c.args.inputs.now in
    let disk = c.args.disk.now in
    let contents = g.O.Write.contents in
    let p = c.write_out.ensures.ends in
    let done = c.write_out.result.0 in
    let Ends = EndsWith (g.F.Folder.gives inputs.files.now) (g.F.Folder.fails inputs.files.now) inputs.bundle.now (name_texts inputs.names.now) in
    let Went = Goes (g.D.Disk.empty disk) (g.D.Disk.free disk) (world (contents c.args.out) (g.D.Disk.file disk)) (world (contents c.write_out.result.1) (g.D.Disk.file disk)) in
    subst (λ (o : Option (Bor Text)). (part : List ℕ) × (Ends (option_map (λ name. name.now) o) (task_of c.args.args.now.request) part done × Went (option_map (λ name. name.now) o) part done))
    (sym c.in-None.is) (p.part, (p.ends, (p.appended, λ name. refl)))
