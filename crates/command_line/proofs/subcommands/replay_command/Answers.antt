use Rattle.std.proofs.Common.{◌∙◌, ap, pos}
use Rattle.clap.specs.Words.{rule_of}
use Rattle.clap.specs.declared.builder.arg.Arg.{Arg}
use Rattle.clap.specs.declared.builder.value_parser.ValueParser.TheVariants.{Signed}
use Rattle.command_line.specs.Arguments.{as_required, parsed_by, replay_app}
use Rattle.command_line.proofs.subcommands.replay_command.Goals as goal

pub returns : goal.returns
unfolding replay_app
returns c =
    c.with_reports.ensures _ (c.with.ensures _ _ (c.with-command.ensures _ _ c.command.ensures
    (c.parsed-replicas.ensures.rule ∙ ap (parsed_by (Signed (pos 1) (pos 64))) (ap rule_of c.required.ensures ∙ ap as_required c.option-replicas.ensures.rule))
    (c.parsed-replicas.ensures.local ∙ ap (λ (x : Arg). x.global) c.required.ensures ∙ c.option-replicas.ensures.local))
    (ap rule_of c.required-events.ensures ∙ ap as_required c.option.ensures.rule) (ap (λ (x : Arg). x.global) c.required-events.ensures ∙ c.option.ensures.local))
