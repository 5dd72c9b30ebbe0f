use Rattle.oim_report.proofs.Shared.{subst, IsUtf8, is_utf8-from_IsUtf8, serialize}
use Rattle.oim_report.proofs.ReferenceLaws.{web_text-parsed, web_text-valid}
use Rattle.oim_report.proofs.laws.web_texts_read_back.Goals as goal

pub returns-clause-utf8 : goal.returns-clause-utf8
returns-clause-utf8 c web = is_utf8-from_IsUtf8 (serialize c.args.url.now) (subst IsUtf8 c.as_str-text.ensures.value c.as_str-text.utf8)

pub returns-clause-parsed : goal.returns-clause-parsed
returns-clause-parsed c web = web_text-parsed c.args.url.now c.as_str-text.ensures.valid web

pub returns-clause-kept : goal.returns-clause-kept
returns-clause-kept c web = web_text-valid c.args.url.now c.as_str-text.ensures.valid (subst IsUtf8 c.as_str-text.ensures.value c.as_str-text.utf8) web
