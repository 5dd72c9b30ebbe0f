use Rattle.std.proofs.Common.{◌∙◌, ap, codes}
use Rattle.command_line.specs.Arguments.{explain_app, one_of_names}
use Rattle.command_line.proofs.subcommands.explain_command.Goals as goal

pub returns : goal.returns
unfolding explain_app
returns c =
    c.with_reports.ensures _ (c.with.ensures _ _ c.command-command.ensures
    (c.choice.ensures.rule ∙ ap (one_of_names c.args.formats (codes "text")) c.option-format.ensures.rule) (c.choice.ensures.local ∙ c.option-format.ensures.local))
