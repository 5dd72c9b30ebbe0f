use Rattle.merge_laws.proofs.Shared.{sym, ap, ◌∙◌, entry_key}
use Rattle.merge_laws.proofs.Indices.{less, less_before}
use Rattle.merge_laws.proofs.sorted_map.start_of.Goals as goal

pub returns-in-Some-clause-below : goal.returns-in-Some-clause-below
returns-in-Some-clause-below g c =
    let found = c.in-Some.ensures.lookup.3 in
    let at = ap (λ e. g.K.Ord.cmp (entry_key e) c.args.key.now) (sym (found.1 c.in-Some.entry.now)) ∙ sym c.cmp.ensures ∙ less _ c.if-is_lt.ensures in
    λ k d _ lt. less_before entry_key g.met.K.Ord.total c.args.entries.now c.args.key.now c.saturating_sub-before.result c.in-Some.entry.now c.requires found.0 at k d lt
