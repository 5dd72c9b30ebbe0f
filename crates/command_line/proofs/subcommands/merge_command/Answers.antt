use Rattle.std.proofs.Common.{◌∙◌, ap, codes}
use Rattle.command_line.specs.Arguments.{merge_app, one_of_names}
use Rattle.command_line.proofs.subcommands.merge_command.Goals as goal

pub returns : goal.returns
unfolding merge_app
returns c =
    c.with_reports.ensures _ (c.with-command.ensures _ _ c.command-command.ensures
    (c.choice.ensures.rule ∙ ap (one_of_names c.args.levels (codes "all")) c.option-allow.ensures.rule) (c.choice.ensures.local ∙ c.option-allow.ensures.local))
