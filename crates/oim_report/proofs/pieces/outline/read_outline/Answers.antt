use Rattle.oim_report.proofs.Shared.{option_map, subst, view, members_view, view-Object, Adds}
use Rattle.serde_json.specs.declared.value.Value.{Object}
use Rattle.oim_report.proofs.Outlines.{outline_is}
use Rattle.oim_report.proofs.pieces.outline.read_outline.Goals as goal

pub returns : goal.returns
returns c =
    let split = c.in-Some.split in
    let one = c.in_ok-read_beside.ensures in
    let two = c.in_ok-read_beside-2.ensures in
    let first = members_view c.read_beside.new.tree.entries in
    let last = c.read_beside-2.new.tree in
    let adds = subst (λ es. Adds one.0 (members_view es) first) c.new-members.ensures.empty one.2 in
    outline_is c.args.text.now split.facts.now (option_map (λ t. t.now) split.before) (option_map (λ t. t.now) split.behind) one.0 two.0 first (members_view last.entries) (view (Object last))
    c.in-Some.ensures one.1 adds two.1 two.2 (view-Object last)
