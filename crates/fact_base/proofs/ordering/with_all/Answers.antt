use Rattle.fact_base.proofs.Shared.{All, Contains, arith, sym, ap, subst, ◌∙◌, text_cmp, IsSet, set_union, set_of}
use Rattle.fact_base.proofs.Sets.{all_there, set_of_is_set}
use Rattle.fact_base.proofs.Stored.{set_among}
use Rattle.fact_base.proofs.TextOrder.{text_cmp_exact, text_cmp_total}
use Rattle.fact_base.proofs.ordering.with_all.Goals as goal

pub returns-then-has_all : goal.returns-then-has_all
returns-then-has_all c = all_there text_cmp_total text_cmp_exact c.args.references.now c.args.others.now c.known.ensures (subst (λ rs. All (Contains rs) c.args.others.now) c.as_slice.ensures.items (c.has_all.ensures c.if-has_all.true))

pub of_rising-requires : goal.of_rising-requires
of_rising-requires c = (omega arith, subst (IsSet text_cmp) (sym c.in_ok-put_in_order.ensures.ok) (set_of_is_set text_cmp_total text_cmp_exact c.in_ok-added.added.items).rises)

pub returns : goal.returns
returns c =
    c.in_ok-absorb.ensures.ok
    ∙ (λ i. set_union text_cmp (c.in_ok-wider.ensures i) ((c.of_rising.ensures ∙ c.in_ok-put_in_order.ensures.ok ∙ ap (set_of text_cmp) c.in_ok-added.ensures.copies) i))
    ∙ set_among c.args.references.now c.args.others.now c.known.ensures
