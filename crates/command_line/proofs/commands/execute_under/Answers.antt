use Rattle.std.proofs.Common.{subst, sym}
use Rattle.command_line.specs.Endings.{Prints}
use Rattle.command_line.specs.Page.{CommandEnds}
use Rattle.command_line.specs.Words.{name_texts, work_of}
use Rattle.command_line.proofs.commands.execute_under.Goals as goal

pub returns-in-Merge-clause-ends : goal.returns-in-Merge-clause-ends
returns-in-Merge-clause-ends g c =
    let inputs = c.args.inputs.now in
    subst (λ s. Prints (CommandEnds (g.F.Folder.gives inputs.files.now) (g.F.Folder.fails inputs.files.now) (name_texts inputs.names.now) c.args.sheet.now (work_of s)) (g.S.Sink.told c.args.out.now.sink) (g.S.Sink.told c.run_merge.new.out.sink) c.run_merge.result) (sym c.in-Merge.is) c.run_merge.ensures.ends

pub returns-in-Verdicts-clause-ends : goal.returns-in-Verdicts-clause-ends
returns-in-Verdicts-clause-ends g c =
    let inputs = c.args.inputs.now in
    subst (λ s. Prints (CommandEnds (g.F.Folder.gives inputs.files.now) (g.F.Folder.fails inputs.files.now) (name_texts inputs.names.now) c.args.sheet.now (work_of s)) (g.S.Sink.told c.args.out.now.sink) (g.S.Sink.told c.run_verdicts.new.out.sink) c.run_verdicts.result) (sym c.in-Verdicts.is) c.run_verdicts.ensures.ends

pub returns-in-Sources-clause-ends : goal.returns-in-Sources-clause-ends
returns-in-Sources-clause-ends g c =
    let inputs = c.args.inputs.now in
    subst (λ s. Prints (CommandEnds (g.F.Folder.gives inputs.files.now) (g.F.Folder.fails inputs.files.now) (name_texts inputs.names.now) c.args.sheet.now (work_of s)) (g.S.Sink.told c.args.out.now.sink) (g.S.Sink.told c.run_sources.new.out.sink) c.run_sources.result) (sym c.in-Sources.is) c.run_sources.ensures.ends

pub returns-in-Check-clause-ends : goal.returns-in-Check-clause-ends
returns-in-Check-clause-ends g c =
    let inputs = c.args.inputs.now in
    subst (λ s. Prints (CommandEnds (g.F.Folder.gives inputs.files.now) (g.F.Folder.fails inputs.files.now) (name_texts inputs.names.now) c.args.sheet.now (work_of s)) (g.S.Sink.told c.args.out.now.sink) (g.S.Sink.told c.run.new.out.sink) c.run.result) (sym c.in-Check.is) c.run.ensures.ends

pub returns-in-Replay-clause-ends : goal.returns-in-Replay-clause-ends
returns-in-Replay-clause-ends g c =
    let inputs = c.args.inputs.now in
    subst (λ s. Prints (CommandEnds (g.F.Folder.gives inputs.files.now) (g.F.Folder.fails inputs.files.now) (name_texts inputs.names.now) c.args.sheet.now (work_of s)) (g.S.Sink.told c.args.out.now.sink) (g.S.Sink.told c.run-in-Replay.new.out.sink) c.run-in-Replay.result) (sym c.in-Replay.is) c.run-in-Replay.ensures.ends
