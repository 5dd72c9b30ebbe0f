use Rattle.std.proofs.Common.{◌∙◌, ap, codes}
use Rattle.command_line.specs.Arguments.{rows_app, one_of_names}
use Rattle.command_line.proofs.subcommands.rows_command.Goals as goal

pub returns : goal.returns
unfolding rows_app
returns c a ok =
    c.with_reports.ensures _ (c.with_flag_of-command.ensures _ _ (c.with-command.ensures _ _ ok
    (c.choice.ensures.rule ∙ ap (one_of_names c.args.formats (codes "lines")) c.option-format.ensures.rule) (c.choice.ensures.local ∙ c.option-format.ensures.local))
    c.flag.ensures.rule c.flag.ensures.local)
