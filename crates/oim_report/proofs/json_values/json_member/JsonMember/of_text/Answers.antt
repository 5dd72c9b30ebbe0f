use Rattle.oim_report.proofs.JsonTexts.{given_text}
use Rattle.oim_report.proofs.json_values.json_member.JsonMember.of_text.Goals as goal

pub returns : goal.returns
returns c = given_text c.args.text.now c.utf8.text
