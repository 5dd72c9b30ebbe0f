use Rattle.std.proofs.Common.{subst}
use Rattle.command_line.specs.Endings.{Prints, Puts}
use Rattle.command_line.specs.Faults.{IsOutputError}
use Rattle.command_line.specs.Outputs.{AreSources}
use Rattle.command_line.specs.Words.{name_texts}
use Rattle.command_line.proofs.Faults.{sources_end}
use Rattle.command_line.proofs.commands.run_sources.Goals as goal

pub returns-clause-ends : goal.returns-clause-ends
returns-clause-ends g c =
    let told = g.S.Sink.told in
    let inputs = c.args.inputs.now in
    let names = name_texts inputs.names.now in
    let t = c.in_ok-merge.merge in
    let new = told c.put_sources.new.out.sink in
    sources_end (g.F.Folder.gives inputs.files.now) (g.F.Folder.fails inputs.files.now) names c.args.sheet.now (told c.args.out.now.sink) new
    c.args.format t c.in_ok-merge.ensures.ok c.put_sources.result
    (subst (λ sink. Prints (Puts (AreSources c.args.format names t) IsOutputError) (told sink) new c.put_sources.result) c.raise.ensures.sink c.put_sources.ensures)
