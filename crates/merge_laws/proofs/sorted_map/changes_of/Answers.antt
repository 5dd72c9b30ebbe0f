use Rattle.merge_laws.proofs.Shared.{◌≡◌, ◌≤◌, ◌∷◌, ◌++◌, [], append-nil, get_or, length, sym, ap, subst, rules, ◌∙◌, arith, length_push, take_all, new_item, new_items, new_value, new_values, index_of, has_key, entry_key}
use Rattle.std.proofs.lemmas.Iterator.Adapters.{YieldsList-from_vec}
use Rattle.std.proofs.lemmas.Iterator.Consumers.{YieldsList-turn, YieldsList-end}
use Rattle.merge_laws.proofs.Edits.{is_new, no_value, not_new, tells_err, value_shared}
use Rattle.merge_laws.proofs.Lists.{flat_map_next}
use Rattle.merge_laws.proofs.Indices.{passed_found, passed_more, index_bound}
use Rattle.merge_laws.proofs.sorted_map.changes_of.Goals as goal

pub find_from-requires-clause-within : goal.find_from-requires-clause-within
find_from-requires-clause-within g c = c.loop-other.invariant.within

pub find_from-requires-clause-below : goal.find_from-requires-clause-below
find_from-requires-clause-below g c =
    let fs = c.args.others.items in
    let turn = YieldsList-turn (YieldsList-from_vec {s = c.into_iter-other-iterator.result} fs (cc) (omega arith)) c.loop-other.yielded c.loop-other.other-iterator c.loop-other.yielded_by c.next.result c.next.new.self c.in-Some.other c.in-Some.is c.next.ensures.steps in
    λ k d at lt. ap (λ f. g.K.Ord.cmp (get_or c.args.entries.now k d).0 f.0) turn.1 ∙ c.loop-other.invariant.passed c.in-Some.other turn.0 k d at lt

pub loop-other-preserved-in-Ok-1 : goal.loop-other-preserved-in-Ok-1
loop-other-preserved-in-Ok-1 g c =
    let R = g.K.Ord.cmp in
    let o = g.met.K.Ord.total in
    let es = c.args.entries.now in
    let fs = c.args.others.items in
    let f = c.in-Some.other in
    let turn = YieldsList-turn (YieldsList-from_vec {s = c.into_iter-other-iterator.result} fs (search rules) (omega arith)) c.loop-other.yielded c.loop-other.other-iterator c.loop-other.yielded_by c.next.result c.next.new.self f c.in-Some.is c.next.ensures.steps in
    let next = length_push c.loop-other.yielded f in
    let values = c.loop-other.changes.values.items in
    let news = c.loop-other.changes.new_entries.items in
    let read = c.index-entries-index.result in
    let turned = g.met.V.Merge.commutative (get_or es c.in-Ok.index read).1 f.1 c.known.ensures c.known-in-Ok.ensures in
    record {
      values =
          c.in_ok-push-in-Ok.ensures.items
          ∙ ap (λ v. values ++ (c.in-Ok.index, v) ∷ []) (c.in_ok-merge-in-Ok.ensures.ok ∙ sym turned)
          ∙ ap (λ cs. values ++ cs) (sym (value_shared o g.V.Merge.merged f es c.in-Ok.index read c.requires.entries c.in-Ok.ensures.index))
          ∙ ap (λ cs. cs ++ new_value R g.V.Merge.merged es f) c.loop-other.invariant.values
          ∙ flat_map_next (new_value R g.V.Merge.merged es) fs _ _ f turn.0 turn.1 next;
      new_entries =
          sym (append-nil news)
          ∙ ap (λ ns. news ++ ns) (sym (not_new entry_key o f es _ c.in-Ok.ensures.index))
          ∙ ap (λ ns. ns ++ new_item R entry_key es f) c.loop-other.invariant.new_entries
          ∙ flat_map_next (new_item R entry_key es) fs _ _ f turn.0 turn.1 next;
      within = omega (arith, c.in-Ok.ensures.bound);
      passed = λ d within. passed_found entry_key o es fs _ _ f d c.requires.entries c.requires.others turn.1 next within _ c.in-Ok.ensures.index;
    }

pub loop-other-preserved : goal.loop-other-preserved
loop-other-preserved g c =
    let R = g.K.Ord.cmp in
    let o = g.met.K.Ord.total in
    let es = c.args.entries.now in
    let fs = c.args.others.items in
    let f = c.in-Some.other in
    let turn = YieldsList-turn (YieldsList-from_vec {s = c.into_iter-other-iterator.result} fs (cc) (omega arith)) c.loop-other.yielded c.loop-other.other-iterator c.loop-other.yielded_by c.next.result c.next.new.self f c.in-Some.is c.next.ensures.steps in
    let next = length_push c.loop-other.yielded f in
    let values = c.loop-other.changes.values.items in
    let news = c.loop-other.changes.new_entries.items in
    let at : c.in-Err.index ≡ index_of R entry_key f.0 es = sym (tells_err (has_key R entry_key f.0 es) (index_of R entry_key f.0 es) _ c.in-Err.ensures.index).1 in
    record {
      values =
          sym (append-nil values)
          ∙ ap (λ cs. values ++ cs) (sym (no_value o g.V.Merge.merged f es _ c.in-Err.ensures.index))
          ∙ ap (λ cs. cs ++ new_value R g.V.Merge.merged es f) c.loop-other.invariant.values
          ∙ flat_map_next (new_value R g.V.Merge.merged es) fs _ _ f turn.0 turn.1 next;
      new_entries =
          c.in_ok-push-in-Err.ensures.items
          ∙ ap (λ ns. news ++ ns) (sym (is_new entry_key o f es _ c.in-Err.ensures.index))
          ∙ ap (λ ns. ns ++ new_item R entry_key es f) c.loop-other.invariant.new_entries
          ∙ flat_map_next (new_item R entry_key es) fs _ _ f turn.0 turn.1 next;
      within = subst (λ n. n ≤ length es) (sym at) (index_bound entry_key o f.0 es);
      passed = λ d within. passed_more entry_key o es fs _ _ f d c.requires.others turn.1 next within _ at;
    }

pub returns-clause-values : goal.returns-clause-values
returns-clause-values g c =
    let fs = c.args.others.items in
    let end = YieldsList-end (YieldsList-from_vec {s = c.into_iter-other-iterator.result} fs (cc) (omega arith)) c.loop-other.yielded c.loop-other.other-iterator c.loop-other.yielded_by c.next.result c.next.new.self c.in-None.is c.next.ensures.steps in
    c.loop-other.invariant.values ∙ ap (new_values g.K.Ord.cmp g.V.Merge.merged c.args.entries.now) (take_all _ fs (omega (arith, end.1)))

pub returns-clause-new_entries : goal.returns-clause-new_entries
returns-clause-new_entries g c =
    let fs = c.args.others.items in
    let end = YieldsList-end (YieldsList-from_vec {s = c.into_iter-other-iterator.result} fs (cc) (omega arith)) c.loop-other.yielded c.loop-other.other-iterator c.loop-other.yielded_by c.next.result c.next.new.self c.in-None.is c.next.ensures.steps in
    c.loop-other.invariant.new_entries ∙ ap (new_items g.K.Ord.cmp entry_key c.args.entries.now) (take_all _ fs (omega (arith, end.1)))
