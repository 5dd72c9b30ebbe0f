use Rattle.fact_base.proofs.Shared.{◌∙◌, option_cmp}
use Rattle.fact_base.proofs.ordering.compared.Goals as goal
use Rattle.oim_report.proofs.DimensionRuns.{answers, looked_up}

pub returns : goal.returns
returns g c =
    let first = looked_up c.args.items.now c.args.i c.get.result c.get.ensures.lookup.3 in
    let second = looked_up c.args.items.now c.args.j c.get-2.result c.get-2.ensures.lookup.3 in
    c.cmp.ensures ∙ answers g.T.Ord.cmp c.get.result c.get-2.result ∙ (λ i. option_cmp g.T.Ord.cmp (first i) (second i))
