use Rattle.std.proofs.Common.{◌∙◌, ap}
use Rattle.clap.specs.Words.{rule_of}
use Rattle.clap.specs.declared.builder.arg.Arg.{Arg}
use Rattle.command_line.specs.Arguments.{with_reports_of, with_short}
use Rattle.command_line.proofs.arguments.with_reports.Goals as goal

pub returns : goal.returns
unfolding with_reports_of
returns c a ok =
    c.with-2.ensures _ _ (c.with.ensures _ _ (c.with_output-command.ensures _ (c.with_flag_of-command.ensures _ _ (c.with-command.ensures _ _ ok
    c.option.ensures.rule c.option.ensures.local)
    (ap rule_of c.short-null.ensures ∙ ap (with_short 48) c.flag.ensures.rule) (ap (λ (x : Arg). x.global) c.short-null.ensures ∙ c.flag.ensures.local)))
    c.flag-quiet.ensures.rule c.flag-quiet.ensures.local)
    c.reports.ensures.rule c.reports.ensures.local
