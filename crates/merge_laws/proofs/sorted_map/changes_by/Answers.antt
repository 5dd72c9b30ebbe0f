use Rattle.merge_laws.proofs.Shared.{◌≡◌, ◌+◌, ◌≤◌, ◌∷◌, ◌++◌, [], append-nil, get_or, length, sym, ap, subst, ◌∙◌, refl, arith, AllWithin, Less, new_item, new_items, new_value, new_values, index_of, has_key, entry_key}
use Rattle.merge_laws.proofs.Edits.{is_new, no_value, not_new, tells_err, value_shared}
use Rattle.merge_laws.proofs.Lists.{flat_map_next}
use Rattle.merge_laws.proofs.Indices.{passed_found, passed_more, index_bound}
use Rattle.merge_laws.proofs.sorted_map.changes_by.Goals as goal
use Rattle.merge_laws.proofs.sorted_map.changes_by.Goals.{in-Ok+in_ok-value-in-Ok+in_ok-merge-in-Ok+in_ok-push-in-Ok, in-Err+in_ok-copied-in-Err+in_ok-push-in-Err}

pub loop-other-preserved : goal.loop-other-preserved
loop-other-preserved g c =
    let R = g.K.Ord.cmp in
    let o = g.met.K.Ord.total in
    let es = c.args.entries.now in
    let fs = c.args.others.now in
    let i = c.loop-other.other-index in
    let f = c.other-item.result in
    let values = c.loop-other.changes.values.items in
    let news = c.loop-other.changes.new_entries.items in
    let value_more : values ++ new_value R g.V.Merge.merged es f ≡ new_values R g.V.Merge.merged es _ =
    ap (λ cs. cs ++ new_value R g.V.Merge.merged es f) c.loop-other.invariant.values
    ∙ flat_map_next (new_value R g.V.Merge.merged es) fs i _ f c.loop-other-test.true c.other-item.is refl in
    let news_more : news ++ new_item R entry_key es f ≡ new_items R entry_key es _ =
    ap (λ ns. ns ++ new_item R entry_key es f) c.loop-other.invariant.new_entries
    ∙ flat_map_next (new_item R entry_key es) fs i _ f c.loop-other-test.true c.other-item.is refl in
    elim c.match-find_from.branch [
      | in-Ok+in_ok-value-in-Ok+in_ok-merge-in-Ok+in_ok-push-in-Ok w ↦
          let merged = w.in_ok-merge-in-Ok.ensures.ok ∙ ap (λ v. g.V.Merge.merged v f.1) w.in_ok-value-in-Ok.ensures in
          record {
            values =
                ap (λ x. x.values.items) w.changes-is
                ∙ w.in_ok-push-in-Ok.ensures.items
                ∙ ap (λ v. values ++ (w.in-Ok.index, v) ∷ []) merged
                ∙ ap (λ cs. values ++ cs) (sym (value_shared o g.V.Merge.merged f es w.in-Ok.index w.index-entries-index.result c.requires.entries w.in-Ok.ensures.index))
                ∙ value_more;
            new_entries =
                ap (λ x. x.new_entries.items) w.changes-is
                ∙ sym (append-nil news)
                ∙ ap (λ ns. news ++ ns) (sym (not_new entry_key o f es _ w.in-Ok.ensures.index))
                ∙ news_more;
            within = omega (arith, w.from-is, w.in-Ok.ensures.bound);
            passed = λ d within. subst (λ n. AllWithin (λ e. R e.0 (get_or fs (i + 1) d).0 ≡ Less) es 0 n) (sym w.from-is) (passed_found entry_key o es fs i _ f d c.requires.entries c.requires.others c.other-item.is refl within _ w.in-Ok.ensures.index);
          }
      | in-Err+in_ok-copied-in-Err+in_ok-push-in-Err w ↦
          let at : c.match-find_from.from ≡ index_of R entry_key f.0 es = w.from-is ∙ sym (tells_err (has_key R entry_key f.0 es) (index_of R entry_key f.0 es) _ w.in-Err.ensures.index).1 in
          record {
            values =
                ap (λ x. x.values.items) w.changes-is
                ∙ sym (append-nil values)
                ∙ ap (λ cs. values ++ cs) (sym (no_value o g.V.Merge.merged f es _ w.in-Err.ensures.index))
                ∙ value_more;
            new_entries =
                ap (λ x. x.new_entries.items) w.changes-is
                ∙ w.in_ok-push-in-Err.ensures.items
                ∙ ap (λ e. news ++ (w.in-Err.index, e) ∷ []) w.in_ok-copied-in-Err.ensures
                ∙ ap (λ ns. news ++ ns) (sym (is_new entry_key o f es _ w.in-Err.ensures.index))
                ∙ news_more;
            within = subst (λ n. n ≤ length es) (sym at) (index_bound entry_key o f.0 es);
            passed = λ d within. passed_more entry_key o es fs i _ f d c.requires.others c.other-item.is refl within _ at;
          }
    ]
