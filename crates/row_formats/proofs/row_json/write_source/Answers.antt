use Rattle.row_formats.proofs.Shared.{[], ◌∷◌, codes, ap, option_copied, Token, member, no_members, number, string, unsigned, Adds-is, Adds-none, Adds-one, closed_object, then_member, file_data}
use Rattle.row_formats.proofs.row_json.write_source.Goals as goal

pub returns : goal.returns
returns c =
    let report = number (unsigned c.args.mention.now.report) in
    let name = c.args.mention.now.identifier in
    let named = file_data (option_copied c.args.file) in
    let fact = member (codes "fact") (string c.args.fact.now) no_members in
    let own = member (codes "identifier") (string name) fact in
    let file = member (codes "file") named own in
    let identifier = Adds-is (ap (λ t. Token.string t ∷ []) c.as_str.ensures.bytes) (Adds-one c.in_ok-string.ensures) in
    closed_object c.end_object.result (member (codes "report") report file) (Adds-one c.in_ok-begin_object.ensures)
    (then_member (codes "report") report file (Adds-one c.in_ok-key.ensures) (Adds-one c.in_ok-u64.ensures)
    (then_member (codes "file") named own (Adds-one c.in_ok-key-2.ensures) c.in_ok-write_file.ensures
    (then_member (codes "identifier") (string name) fact (Adds-one c.in_ok-key-3.ensures) identifier
    (then_member (codes "fact") (string c.args.fact.now) no_members (Adds-one c.in_ok-key-4.ensures) (Adds-one c.in_ok-string-2.ensures) Adds-none))))
    c.end_object.ensures
