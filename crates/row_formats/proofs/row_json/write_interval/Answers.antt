use Rattle.row_formats.proofs.Shared.{◌≡◌, [], ◌∷◌, codes, ap, ◌∙◌, rules, Token, member, no_members, string, Adds-is, Adds-none, Adds-one, closed_object, then_member}
use Rattle.oim_value.specs.Plain.{plain}
use Rattle.row_formats.proofs.row_json.write_interval.Goals as goal

pub returns : goal.returns
returns c =
    let low_is : c.in_ok-low.low ≡ plain c.args.common.now.low = search rules in
    let high_is : c.in_ok-high.high ≡ plain c.args.common.now.high = search rules in
    let low = Adds-is (ap (λ t. Token.string t ∷ []) (c.as_str.ensures.bytes ∙ low_is)) (Adds-one c.in_ok-string.ensures) in
    let high = Adds-is (ap (λ t. Token.string t ∷ []) (c.as_str-2.ensures.bytes ∙ high_is)) (Adds-one c.in_ok-string-2.ensures) in
    let rest = member (codes "high") (string (plain c.args.common.now.high)) no_members in
    closed_object c.end_object.result (member (codes "low") (string (plain c.args.common.now.low)) rest) (Adds-one c.in_ok-begin_object.ensures)
    (then_member (codes "low") (string (plain c.args.common.now.low)) rest (Adds-one c.in_ok-key.ensures) low
    (then_member (codes "high") (string (plain c.args.common.now.high)) no_members (Adds-one c.in_ok-key-2.ensures) high Adds-none))
    c.end_object.ensures
