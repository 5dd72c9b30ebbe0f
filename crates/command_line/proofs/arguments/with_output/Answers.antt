use Rattle.std.proofs.Common.{◌∙◌, ap}
use Rattle.clap.specs.Words.{rule_of}
use Rattle.clap.specs.declared.builder.arg.Arg.{Arg}
use Rattle.clap.specs.declared.builder.value_parser.ValueParser.TheVariants.{Unsigned}
use Rattle.command_line.specs.Arguments.{parsed_by, with_output_of, with_short}
use Rattle.command_line.proofs.arguments.with_output.Goals as goal

pub returns : goal.returns
unfolding with_output_of
returns c a ok =
    c.with-3.ensures _ _ (c.with-2.ensures _ _ (c.with.ensures _ _ ok
    (ap rule_of c.short-output.ensures ∙ ap (with_short 111) c.option.ensures.rule) (ap (λ (x : Arg). x.global) c.short-output.ensures ∙ c.option.ensures.local))
    (c.parsed-most.ensures.rule ∙ ap (parsed_by (Unsigned 1 18446744073709551615)) c.option-most.ensures.rule) (c.parsed-most.ensures.local ∙ c.option-most.ensures.local))
    c.flag-verbose.ensures.rule c.flag-verbose.ensures.local
