use Rattle.oim_merge.proofs.Shared.{◌≡◌, map, rules, ap, subst, ◌∙◌, IsPermutation, IsStableByKey, nat_cmp, IsNonDecreasingBy-from_sort_by_key, answers_always, all_indexed, lent, IndexedMention}
use Rattle.oim_merge.proofs.IndexedFacts.{sorted_are}
use Rattle.oim_merge.proofs.mentions.indexed_by_fact.Goals as goal

pub returns : goal.returns
returns c =
    let facts = c.args.base.now.body.facts in
    let ms = c.args.mentions.items in
    let sorted = c.sort_by_key.new.self.items in
    let all : c.in_ok-indexed.indexed.items ≡ all_indexed facts ms
    = c.in_ok-indexed.ensures ∙ ap (λ fs. all_indexed fs ms) (ap (map lent) c.as_slice.ensures.value ∙ c.in_ok-facts.ensures) in
    sorted_are facts c.sheet-sheet.ensures.fits.rises.facts ms c.requires sorted
    (IsNonDecreasingBy-from_sort_by_key (λ (m : IndexedMention). m.index) _ c.in_ok-sort_by_key.ensures.sorted (λ a r q k. search rules))
    (subst (λ xs. IsStableByKey (λ (m : IndexedMention). m.index) nat_cmp xs sorted) all (c.sort_by_key.ensures.stable (λ m. m.index) (answers_always _ _ _ (λ f a r g h. search rules))))
    (subst (λ xs. IsPermutation xs sorted) all c.sort_by_key.ensures.permutation)
