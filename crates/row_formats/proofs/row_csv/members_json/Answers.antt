use Rattle.row_formats.proofs.Shared.{◌∙◌, no_members, object, defined_members, Adds-one, whole_object, braced}
use Rattle.row_formats.proofs.Items.{whole_text}
use Rattle.row_formats.proofs.row_csv.members_json.Goals as goal

pub returns : goal.returns
returns c =
    let members = defined_members braced c.args.members.now no_members in
    whole_text (object members) (c.new-json.ensures.before ∙ c.new.ensures.items) c.new-json.ensures.tokens
    (whole_object members (Adds-one c.in_ok-begin_object.ensures) c.in_ok-write_defined.ensures (Adds-one c.in_ok-end_object.ensures))
    c.into_inner.ensures.items
