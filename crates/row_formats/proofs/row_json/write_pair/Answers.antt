use Rattle.row_formats.proofs.Shared.{[], ◌∷◌, ap, ◌∙◌, Token, item, no_items, string, Adds-is, Adds-one, Adds-trans, named}
use Rattle.row_formats.proofs.Items.{closed_array}
use Rattle.row_formats.proofs.row_json.write_pair.Goals as goal

pub returns : goal.returns
returns c =
    let name = named c.args.identifiers.now.before c.args.identifiers.now.count in
    let first = Adds-is (ap (λ t. Token.string t ∷ []) (c.as_str.ensures.bytes ∙ c.in_ok-first.ensures)) (Adds-one c.in_ok-string.ensures) in
    let second = Adds-is (ap (λ t. Token.string t ∷ []) (c.as_str-2.ensures.bytes ∙ c.in_ok-second.ensures)) (Adds-one c.in_ok-string-2.ensures) in
    closed_array c.end_array.result (item (string (name c.args.first)) (item (string (name c.args.second)) no_items))
    (Adds-one c.in_ok-begin_array.ensures) (Adds-trans first second) c.end_array.ensures
