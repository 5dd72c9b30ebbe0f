use Rattle.std.proofs.Common.{◌∙◌, lit<, ap, sym}
use Rattle.std.proofs.lemmas.Str.Pattern.{strip_suffix_char}
use Rattle.command_line.specs.ReportNames.{without_return}
use Rattle.command_line.proofs.ListedNames.{return_stripped}
use Rattle.command_line.proofs.request.Args.without_return.Goals as goal

pub returns-else-self : goal.returns-else-self
returns-else-self c =
    let name = c.args.name in
    ap (λ text. text.now) c.unwrap_or.ensures ∙ return_stripped name c.strip_suffix.result (strip_suffix_char 13 name.now c.strip_suffix.result c.strip_suffix.ensures.cases (lit< tt))
    ∙ sym (ap (λ is_null. without_return is_null name.now) c.if-self.false)
