use Rattle.oim_report.proofs.Shared.{◌≡◌, Some, codes, option_map, rules, sym, ap, ◌∙◌, as_object, view, members_view, any_member, given_of, is_unknown, core_keys, dimension_parts}
use Rattle.oim_report.proofs.MembersPut.{get_in}
use Rattle.oim_report.proofs.fact.fact_members.DimensionMembers.of.Goals as goal

pub returns : goal.returns
returns c =
    let d = view c.args.object.now in
    let ms = members_view c.in-Some.members.now.entries in
    let is : as_object d ≡ Some ms = search rules in
    let unknown : c.is_some.result ≡ any_member (is_unknown core_keys) ms = search rules in
    (λ i. Some (record {
      concept = (c.of.ensures ∙ ap given_of (c.get.ensures ∙ get_in (codes "concept") d ms is)) i;
      entity = (c.of-2.ensures ∙ ap given_of (c.get-2.ensures ∙ get_in (codes "entity") d ms is)) i;
      period = (c.of-3.ensures ∙ ap given_of (c.get-3.ensures ∙ get_in (codes "period") d ms is)) i;
      unit = (c.of-4.ensures ∙ ap given_of (c.get-4.ensures ∙ get_in (codes "unit") d ms is)) i;
      language = (c.of-5.ensures ∙ ap given_of (c.get-5.ensures ∙ get_in (codes "language") d ms is)) i;
      note = (c.of-6.ensures ∙ ap given_of (c.get-6.ensures ∙ get_in (codes "noteId") d ms is)) i;
      defined = c.in_ok-defined_in.ensures i;
      unknown = unknown i;
    }))
    ∙ sym (ap (option_map dimension_parts) is)
