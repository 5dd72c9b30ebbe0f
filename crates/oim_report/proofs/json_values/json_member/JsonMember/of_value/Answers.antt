-- A string that was read is UTF-8, so it is a text.
use Rattle.oim_report.proofs.JsonTexts.{string_gives}
use Rattle.oim_report.proofs.json_values.json_member.JsonMember.of_value.Goals as goal

pub returns-in-String : goal.returns-in-String
returns-in-String c = string_gives c.args.value.now c.in-String.text _ c.in-String.is c.as_str.ensures.value c.as_str.utf8
