use Rattle.fact_base.proofs.Shared.{◌∙◌, gathered}
use Rattle.fact_base.proofs.BuilderLaws.{Bases, becomes_base, derived_sorted}
use Rattle.fact_base.proofs.base.Base.of.Goals as goal

pub entries_in_order-requires : goal.entries_in_order-requires
entries_in_order-requires c = derived_sorted c.sort.new.items.items c.in_ok-sort.ensures.sorted

is : (c : goal.After-of_rising) → Bases c.args.sheet.now c.in_ok-entries_in_order.field-0 c.of_rising.result (gathered c.args.facts.items c.args.references.items)
is c =
    becomes_base c.args.sheet.now c.args.facts.items c.sort.new.items.items c.in_ok-entries_in_order.field-0 c.args.references.items c.of_rising.result
    c.requires c.sort.ensures.permutation c.in_ok-entries_in_order.ensures (c.of_rising.ensures ∙ c.in_ok-put_in_order.ensures.ok)

pub invariant_of-result : goal.invariant_of-result
invariant_of-result c = (is c).stored

pub returns : goal.returns
returns c = λ i. record { sheet = c.args.sheet.now; body = (is c).body i }
