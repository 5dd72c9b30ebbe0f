use Rattle.oim_report.proofs.Shared.{◌≡◌, ◌||◌, Some, codes, option_map, option_and_then, rules, sym, ap, ◌∙◌, as_object, view, members_view, any_member, given_of, has_member, is_no_object, is_unknown, dimension_parts, fact_keys, parts_of}
use Rattle.oim_report.proofs.MembersPut.{get_in}
use Rattle.oim_report.proofs.fact.fact_members.FactMembers.of.Goals as goal

pub returns : goal.returns
returns c =
    let d = view c.args.object.now in
    let ms = members_view c.in-Some.members.now.entries in
    let is : as_object d ≡ Some ms = search rules in
    let dimensions = c.get-dimensions.ensures ∙ get_in (codes "dimensions") d ms is in
    let links = c.get-links.ensures ∙ get_in (codes "links") d ms is in
    let linked : c.has_member.result ≡ has_member (option_and_then as_object (option_map (λ v. view v.now) c.get-links.result)) = search rules in
    let unknown : c.is_some.result ≡ any_member (is_unknown fact_keys) ms = search rules in
    (λ i. Some (record {
      value = (c.of.ensures ∙ ap given_of (c.get.ensures ∙ get_in (codes "value") d ms is)) i;
      decimals = (c.of-2.ensures ∙ ap given_of (c.get-2.ensures ∙ get_in (codes "decimals") d ms is)) i;
      dimensions = (c.in_ok-dimensions_of.ensures ∙ ap (λ o. option_map dimension_parts (option_and_then as_object o)) dimensions) i;
      linked = (linked ∙ ap (λ o. has_member (option_and_then as_object o)) links) i;
      misshapen = (c.is_misshapen.ensures ∙ (λ j. is_no_object (dimensions j) || is_no_object (links j))) i;
      unknown = unknown i;
    }))
    ∙ sym (ap (option_map parts_of) is)
