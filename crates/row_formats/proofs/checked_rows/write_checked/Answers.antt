use Rattle.std.proofs.Common.{[], ◌∷◌, codes, ap}
use Rattle.std.specs.Option.{option_copied}
use Rattle.json.specs.Token.{Token}
use Rattle.serde_json.specs.Data.{boolean, member, no_members, number, string, unsigned}
use Rattle.oim_value.specs.Level.{level_entry}
use Rattle.oim_write.proofs.Tokens.{Adds-is, Adds-none, Adds-one, closed_object, then_member}
use Rattle.row_formats.specs.SourceRows.{file_data}
use Rattle.row_formats.proofs.checked_rows.write_checked.Goals as goal

pub returns : goal.returns
returns c =
    let checked = c.args.checked.now in
    let report = number (unsigned c.args.report) in
    let named = file_data (option_copied c.args.file) in
    let count = number (unsigned checked.facts) in
    let text = string (level_entry checked.level).text in
    let canonical = member (codes "canonical") (boolean checked.canonical) no_members in
    let level = member (codes "level") text canonical in
    let facts = member (codes "facts") count level in
    let file = member (codes "file") named facts in
    let written = Adds-is (ap (λ t. Token.string t ∷ []) c.text.ensures) (Adds-one c.in_ok-string.ensures) in
    closed_object c.end_object.result (member (codes "report") report file) (Adds-one c.in_ok-begin_object.ensures)
    (then_member (codes "report") report file (Adds-one c.in_ok-key.ensures) (Adds-one c.in_ok-u64.ensures)
    (then_member (codes "file") named facts (Adds-one c.in_ok-key-2.ensures) c.in_ok-write_file.ensures
    (then_member (codes "facts") count level (Adds-one c.in_ok-key-3.ensures) (Adds-one c.in_ok-u64-2.ensures)
    (then_member (codes "level") text canonical (Adds-one c.in_ok-key-4.ensures) written
    (then_member (codes "canonical") (boolean checked.canonical) no_members (Adds-one c.in_ok-key-5.ensures) (Adds-one c.in_ok-boolean.ensures) Adds-none)))))
    c.end_object.ensures
