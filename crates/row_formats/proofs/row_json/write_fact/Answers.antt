use Rattle.row_formats.proofs.Shared.{codes, member, no_members, string, value_data, decimals_member, Adds-one, closed_object, then_member, braced}
use Rattle.row_formats.proofs.row_json.write_fact.Goals as goal

pub returns : goal.returns
returns c =
    let name = c.args.identifier.now in
    let v = c.args.value.now in
    let rest = member (codes "value") (value_data braced v) (decimals_member v no_members) in
    closed_object c.end_object.result (member (codes "fact") (string name) rest) (Adds-one c.in_ok-begin_object.ensures)
    (then_member (codes "fact") (string name) rest (Adds-one c.in_ok-key.ensures) (Adds-one c.in_ok-string.ensures)
    (then_member (codes "value") (value_data braced v) (decimals_member v no_members) (Adds-one c.in_ok-key-2.ensures) c.in_ok-write_value.ensures
    c.in_ok-write_decimals.ensures))
    c.end_object.ensures
