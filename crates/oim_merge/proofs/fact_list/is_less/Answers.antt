use Rattle.oim_merge.proofs.Shared.{ap, ◌∙◌, is_lt, ordering_then, dimensions_agree, values_agree}
use Rattle.oim_merge.proofs.fact_list.is_less.Goals as goal

pub returns : goal.returns
returns c =
    let one = c.args.one.now in
    let fact = c.args.fact.now in
    c.is_lt.ensures ∙ ap is_lt (c.cmp.ensures ∙ (λ i. ordering_then (dimensions_agree one.dimensions.now fact.dimensions i) (values_agree one.value.now fact.value i)))
