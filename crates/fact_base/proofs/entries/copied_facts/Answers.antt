use Rattle.fact_base.proofs.Shared.{◌≡◌, ◌<◌, ◌++◌, slice_get, Some, sym, ap, subst, ◌∙◌, option_map, Entry, facts_of_entries, facts_with}
use Rattle.fact_base.proofs.Walks.{facts_further, no_entry}
use Rattle.fact_base.proofs.entries.copied_facts.Goals as goal
use Rattle.fact_base.proofs.entries.copied_facts.Goals.{in-Some+in_ok-push_facts, in_default}

pub loop-index-preserved : goal.loop-index-preserved
loop-index-preserved c =
    let es = c.args.entries.now in
    let l = c.loop-index in
    elim c.match-at.branch [
      | in-Some+in_ok-push_facts w ↦
          let e : Entry = (w.in-Some.dimensions.now, w.in-Some.field-0-1.now) in
          let at : slice_get es l.index ≡ Some e = sym c.at.ensures ∙ ap (option_map (λ p. (p.0.now, p.1.now))) w.in-Some.is in
          let put = ap (λ v. v.items) w.facts-is ∙ w.in_ok-push_facts.ensures ∙ ap (λ vs. l.facts.items ++ facts_with e.0 vs) w.as_slice.ensures.items in
          facts_further es l.index e l.facts.items c.match-at.facts.items (facts_of_entries es) at put l.invariant
      | in_default w ↦ no_entry es l.index (subst (λ n. l.index < n) c.len-index-end.ensures.count c.loop-index-test.true) (sym c.at.ensures ∙ ap (option_map (λ p. (p.0.now, p.1.now))) w.in_default.is)
    ]
