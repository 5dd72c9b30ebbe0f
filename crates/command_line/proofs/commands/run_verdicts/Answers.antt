use Rattle.std.proofs.Common.{subst}
use Rattle.command_line.specs.Endings.{Prints, Puts}
use Rattle.command_line.specs.Faults.{IsOutputError}
use Rattle.command_line.specs.Outputs.{AreVerdicts}
use Rattle.command_line.specs.Words.{name_texts}
use Rattle.command_line.proofs.Faults.{verdicts_end}
use Rattle.command_line.proofs.commands.run_verdicts.Goals as goal

pub returns-clause-ends : goal.returns-clause-ends
returns-clause-ends g c =
    let told = g.S.Sink.told in
    let inputs = c.args.inputs.now in
    let a = c.in_ok-consolidation.consolidation in
    let new = told c.put_verdicts.new.out.sink in
    verdicts_end (g.F.Folder.gives inputs.files.now) (g.F.Folder.fails inputs.files.now) (name_texts inputs.names.now) c.args.sheet.now (told c.args.out.now.sink) new
    c.args.format a c.in_ok-consolidation.ensures.ok c.put_verdicts.result
    (subst (λ sink. Prints (Puts (AreVerdicts c.args.format a.body a.refusals) IsOutputError) (told sink) new c.put_verdicts.result) c.raise.ensures.sink c.put_verdicts.ensures)
