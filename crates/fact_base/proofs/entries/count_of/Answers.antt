use Rattle.fact_base.proofs.Shared.{◌≡◌, length, slice_get, ◌+◌, ◌<◌, ◌≤◌, Some, sym, ap, subst, ◌∙◌, arith, option_map, facts_of_entries, Entry}
use Rattle.fact_base.proofs.entries.count_of.Goals as goal
use Rattle.fact_base.proofs.Walks.{count_ends, count_further, no_entry}
use Rattle.fact_base.proofs.entries.count_of.Goals.{in-Some, in_default}

pub loop-index-preserved : goal.loop-index-preserved
loop-index-preserved c = elim c.match-at.branch [
  | in-Some w ↦
      let e : Entry = (w.in-Some._dimensions.now, w.in-Some.field-0-1.now) in
      let at : slice_get c.args.entries.now c.loop-index.index ≡ Some e = sym c.at.ensures ∙ ap (option_map (λ p. (p.0.now, p.1.now))) w.in-Some.is in
      let put : c.match-at.count ≡ c.loop-index.count + length e.1.0 = w.count-is ∙ ap (λ vs. c.loop-index.count + length vs) w.as_slice.ensures.items in
      let few = w.as_slice.type_inv in
      let so_far = c.loop-index.invariant.1 in
      let long = ap length w.as_slice.ensures.items in
      (count_further c.args.entries.now c.loop-index.index e c.loop-index.count c.match-at.count (length (facts_of_entries c.args.entries.now)) at put c.loop-index.invariant.0, omega (arith, few, so_far, put, long))
  | in_default w ↦ no_entry c.args.entries.now c.loop-index.index (subst (λ n. c.loop-index.index < n) c.len-index-end.ensures.count c.loop-index-test.true) (sym c.at.ensures ∙ ap (option_map (λ p. (p.0.now, p.1.now))) w.in_default.is)
]

pub returns : goal.returns
returns c = count_ends c.args.entries.now c.loop-index.index c.loop-index.count (length (facts_of_entries c.args.entries.now)) (subst (λ n. n ≤ c.loop-index.index) c.len-index-end.ensures.count c.loop-index-test.false) c.loop-index.invariant.0
