use Rattle.oim_report.proofs.Shared.{◌≡◌, sym, ap, ◌∙◌, view, members_view, facts_of, members, facts_said}
use Rattle.oim_report.proofs.fact_reader.read_facts.Goals as goal

pub returns-clause-ok : goal.returns-clause-ok
returns-clause-ok c =
    let own = c.args.reader.now in
    let told : members_view c.in-Some.objects.now.entries ≡ facts_of (view c.args.tree.now) = ap members c.in-Some.ensures in
    ap (λ ms. facts_said own.sheet own.aliases ms) (sym told) ∙ c.in_ok-read_each.ensures.ok
