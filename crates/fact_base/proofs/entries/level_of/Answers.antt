use Rattle.fact_base.proofs.Shared.{◌≡◌, slice_get, ◌<◌, ◌≤◌, Some, sym, ap, subst, ◌∙◌, option_map, facts_of_entries, Entry, level_of, ord_max, level_cmp, level_max_is, verdict_of}
use Rattle.fact_base.proofs.entries.level_of.Goals as goal
use Rattle.fact_base.proofs.Levels.{level_is, level_of_values}
use Rattle.fact_base.proofs.Walks.{level_ends, level_further, no_entry, starts}
use Rattle.fact_base.proofs.entries.level_of.Goals.{in-Some, in_default}

pub loop-index-init : goal.loop-index-init
loop-index-init c = starts c.args.entries.now c.requires.rise c.requires.summed

pub loop-index-preserved : goal.loop-index-preserved
loop-index-preserved c = elim c.match-at.branch [
  | in-Some w ↦
      let e : Entry = (w.in-Some._dimensions.now, w.in-Some.field-0-1.now) in
      let at : slice_get c.args.entries.now c.loop-index.index ≡ Some e = sym c.at.ensures ∙ ap (option_map (λ p. (p.0.now, p.1.now))) w.in-Some.is in
      let values : verdict_of e.1.0 ≡ Some w.verdict_of.result = ap verdict_of (sym w.as_slice.ensures.items) ∙ w.verdict_of.ensures in
      let put : c.match-at.level ≡ ord_max level_cmp c.loop-index.level (level_of_values e.1.0) =
      w.level-is ∙ w.max-level.ensures ∙ level_max_is c.loop-index.level w.level_at.result ∙ ap (ord_max level_cmp c.loop-index.level) (w.level_at.ensures ∙ level_is e.1.0 w.verdict_of.result values) in
      level_further c.args.entries.now c.loop-index.index e c.loop-index.level c.match-at.level (level_of (facts_of_entries c.args.entries.now)) at put c.loop-index.invariant
  | in_default w ↦ no_entry c.args.entries.now c.loop-index.index (subst (λ n. c.loop-index.index < n) c.len-index-end.ensures.count c.loop-index-test.true) (sym c.at.ensures ∙ ap (option_map (λ p. (p.0.now, p.1.now))) w.in_default.is)
]

pub returns : goal.returns
returns c = level_ends c.args.entries.now c.loop-index.index c.loop-index.level (level_of (facts_of_entries c.args.entries.now)) (subst (λ n. n ≤ c.loop-index.index) c.len-index-end.ensures.count c.loop-index-test.false) c.loop-index.invariant
