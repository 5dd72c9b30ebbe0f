use Rattle.merge_laws.proofs.Shared.{◌≡◌, ◌<◌, OnOk, length, vec_len, arith, sym, subst, ◌∙◌, AllByRecursion, IsFirstLeast, new_items, new_values, entry_key, map_union, on_ok_weaker}
use Rattle.std.proofs.lemmas.Bool.Decides.{nat_tests}
use Rattle.merge_laws.proofs.Taking.{first_least}
use Rattle.merge_laws.proofs.Unions.{map_changed, map_of_other, map_stays}
use Rattle.merge_laws.proofs.Values.{values_within}
use Rattle.merge_laws.proofs.sorted_map.SortedMap.absorb.Goals as goal

pub make-requires-clause-values : goal.make-requires-clause-values
make-requires-clause-values g c =
    let told = c.in_ok-moved.ensures.values ∙ (λ i. new_values g.K.Ord.cmp g.V.Merge.merged (c.as_slice.ensures.value i) c.other.inside.entries.items) in
    let es = c.self.inside.entries.items in
    let len : length es ≡ vec_len c.self.inside.entries = omega arith in
    subst (AllByRecursion (λ d. d.0 < vec_len c.self.inside.entries)) (sym told)
    (subst (λ n. AllByRecursion (λ d. d.0 < n) (new_values g.K.Ord.cmp g.V.Merge.merged es c.other.inside.entries.items)) len (values_within g.met.K.Ord.total g.V.Merge.merged es c.other.inside.entries.items c.self.invariant.rises))

pub make-requires-clause-new_entries : goal.make-requires-clause-new_entries
make-requires-clause-new_entries g c =
    let told = c.in_ok-moved.ensures.new_entries ∙ (λ i. new_items g.K.Ord.cmp entry_key (c.as_slice.ensures.value i) c.other.inside.entries.items) in
    subst (IsFirstLeast (vec_len c.self.inside.entries)) (sym told) (first_least entry_key g.met.K.Ord.total (vec_len c.self.inside.entries) c.self.inside.entries.items c.other.inside.entries.items c.other.invariant.rises)

made : (g : _) (c : goal.After-make g) → OnOk c.make.result (c.make.new.entries.items ≡ map_union g.K.Ord.cmp g.V.Merge.merged c.self.inside.entries.items c.other.inside.entries.items)
made g c =
    let values = c.in_ok-moved.ensures.values ∙ (λ i. new_values g.K.Ord.cmp g.V.Merge.merged (c.as_slice.ensures.value i) c.other.inside.entries.items) in
    let news = c.in_ok-moved.ensures.new_entries ∙ (λ i. new_items g.K.Ord.cmp entry_key (c.as_slice.ensures.value i) c.other.inside.entries.items) in
    map_changed g.met.K.Ord.total g.V.Merge.merged c.make.result c.self.inside.entries.items c.other.inside.entries.items _ _ _ values news c.self.invariant.rises c.other.invariant.rises c.make.ensures.ok

pub invariant_of-self-2 : goal.invariant_of-self-2
invariant_of-self-2 g c = map_stays g.met.K.Ord.total g.V.Merge.merged g.V.Merge.is_known g.met.V.Merge.closed c.make.result c.self.inside.entries.items c.other.inside.entries.items c.make.new.entries.items c.self.invariant c.other.invariant (made g c) c.make.ensures.err

pub returns-clause-ok : goal.returns-clause-ok
returns-clause-ok g c = on_ok_weaker c.make.result (λ done. done ∙ (λ i. map_union g.K.Ord.cmp g.V.Merge.merged (c.self.view_is i) (c.other.view_is i))) (made g c)

pub invariant_of-self : goal.invariant_of-self
invariant_of-self g c = c.other.invariant

pub returns-then-is_empty-clause-ok : goal.returns-then-is_empty-clause-ok
returns-then-is_empty-clause-ok g c =
    let tested = sym c.is_empty.ensures ∙ c.if-is_empty.true in
    let none : length c.self.inside.entries.items ≡ 0 = grind (arith, nat_tests) in
    sym (map_of_other g.met.K.Ord.total g.V.Merge.merged g.V.Merge.is_known g.met.K.Key.exact g.met.V.Merge.commutative c.self.inside.entries.items c.other.inside.entries.items none c.other.invariant) ∙ (λ i. map_union g.K.Ord.cmp g.V.Merge.merged (c.self.view_is i) (c.other.view_is i))
