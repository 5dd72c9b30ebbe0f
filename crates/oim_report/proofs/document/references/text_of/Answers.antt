use Rattle.oim_report.proofs.Shared.{Some, ap, sym, ◌∙◌, rules, subst, IsUtf8}
use Rattle.oim_report.proofs.ReferenceLaws.{web_text-valid}
use Rattle.oim_report.proofs.document.references.text_of.Goals as goal

pub returns-clause-ok : goal.returns-clause-ok
returns-clause-ok c =
    web_text-valid c.args.url c.as_str.ensures.valid (subst IsUtf8 c.as_str.ensures.value c.as_str.utf8) (search rules)
    ∙ ap Some (sym (c.in_ok-from_string.ensures ∙ c.from.ensures))
