use Rattle.row_formats.proofs.Shared.{[], ◌∷◌, ◌++◌, take, sym, subst, ap, ◌∙◌, arith, length-take-le, take_all, take_more, AddsValue, Adds-is, Adds-one, Adds-trans, named, fact_data, fact_items, item_tokens}
use Rattle.row_formats.proofs.Items.{closed_array, next_fact}
use Rattle.row_formats.proofs.row_json.write_facts.Goals as goal

pub loop-index-preserved : goal.loop-index-preserved
loop-index-preserved c =
    let l = c.loop-index in
    let name = named c.args.identifiers.now.before c.args.identifiers.now.count in
    let vs = c.args.values.now in
    let v = c.index-values-index.result in
    let more = take_more vs l.index v (omega arith) ∙ ap (λ x. take l.index vs ++ x ∷ []) (sym c.index-values-index.is) in
    let written = subst (λ n. AddsValue l.json c.write_fact.new.json (fact_data n v)) (c.as_str.ensures.bytes ∙ c.in_ok-identifier.ensures) c.in_ok-write_fact.ensures in
    Adds-is (sym (next_fact name 0 (take l.index vs) v l.index (omega (arith, length-take-le l.index vs (omega arith)))) ∙ ap (λ xs. item_tokens (fact_items name 0 xs)) (sym more))
    (Adds-trans l.invariant written)

pub returns : goal.returns
returns c =
    let l = c.loop-index in
    let vs = c.args.values.now in
    let items = fact_items (named c.args.identifiers.now.before c.args.identifiers.now.count) 0 in
    closed_array c.end_array.result (items vs) (Adds-one c.in_ok-begin_array.ensures)
    (Adds-is (ap (λ xs. item_tokens (items xs)) (take_all l.index vs (omega arith))) l.invariant) c.end_array.ensures
