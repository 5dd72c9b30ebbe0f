use Rattle.std.proofs.Common.{◌∙◌, ◌≡◌, Some, ap, rules}
use Rattle.clap.specs.Words.{rule_of}
use Rattle.clap.specs.declared.builder.arg.Arg.{Arg}
use Rattle.command_line.proofs.arguments.parsed.Goals as goal

pub returns : goal.returns
returns c =
    let given = c.value_parser.ensures.given in
    let same : given.0 ≡ c.args.parser = search rules in
    record {
      rule = ap rule_of c.value_parser.ensures.others ∙ ap (λ v. record (rule_of c.args.argument) { parser = v }) (given.1 ∙ ap Some same);
      local = ap (λ (x : Arg). x.global) c.value_parser.ensures.others;
    }
