use Rattle.std.proofs.lemmas.Result.{IfOk-weaker}
use Rattle.command_line.specs.Arguments.{Tables, program_app}
use Rattle.command_line.proofs.words.program.Goals as goal

pub returns : goal.returns
unfolding program_app
returns c =
    let tables : Tables = record {
      levels = c.levels-levels.result;
      formats = c.formats-formats.result;
      explained = c.explained-explained.result;
    } in
    IfOk-weaker c.with_command.result _ _ (λ made h. (tables, (c.levels-levels.ensures, c.formats-formats.ensures, c.explained-explained.ensures), h))
    (c.with_command.ensures _ _ (c.with_command-program-5.ensures _ _ (c.with_command-program-4.ensures _ _ (c.with_command-program-3.ensures _ _
    (c.with_command-program-2.ensures _ _ (c.with_command-program.ensures _ _ c.top.ensures c.merge_command.ensures) (c.rows_command.ensures _ c.command-verdicts.ensures))
    (c.rows_command-2.ensures _ c.command-sources.ensures)) (c.rows_command-3.ensures _ c.command-check.ensures)) c.explain_command.ensures) c.replay_command.ensures)
