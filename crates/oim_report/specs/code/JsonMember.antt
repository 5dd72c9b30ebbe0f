-- The value that the code's `JsonMember` represents (own).
use Rattle.oim_report.specs.Json.{Given, absent, nil, text, whole, other}
use Rattle.oim_report.specs.declared.json_values.json_member.JsonMember.{JsonMember}
use Rattle.oim_report.specs.declared.json_values.json_member.JsonMember.TheVariants.{Absent, Nil, Text, Whole, Other}

abbrev pub seen : JsonMember → Given
seen Absent = absent
seen Nil = nil
seen (Text t) = text t.now
seen (Whole n) = whole n
seen Other = other
