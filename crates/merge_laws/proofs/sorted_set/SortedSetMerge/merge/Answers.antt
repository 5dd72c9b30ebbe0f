use Rattle.merge_laws.proofs.Shared.{rules, ◌≡◌, OnOk, length, sym, subst, ◌∙◌, reverse, IsFirstLeast, inserted, new_items, itself, set_union, on_ok_weaker}
use Rattle.merge_laws.proofs.Taking.{first_least}
use Rattle.merge_laws.proofs.Unions.{set_stays, set_taken}
use Rattle.merge_laws.proofs.sorted_set.SortedSetMerge.merge.Goals as goal

pub insert_new-requires : goal.insert_new-requires
insert_new-requires g c =
    let news = c.in_ok-news.ensures ∙ (λ i. new_items g.T.Ord.cmp itself (c.as_slice.ensures i) (c.as_slice-2.ensures i)) in
    (search rules, subst (IsFirstLeast (length c.self.inside.items)) (sym news) (first_least itself g.met.T.Ord.total (length c.self.inside.items) c.self.inside.items c.other.inside.items c.other.invariant))

made : (g : _) (c : goal.After-insert_new g) → OnOk c.insert_new.result (c.insert_new.new.self ≡ set_union g.T.Ord.cmp c.self.inside.items c.other.inside.items)
made g c = on_ok_weaker c.insert_new.result (λ done.
    done
    ∙ (λ i. inserted c.self.inside.items (reverse (c.in_ok-news.ensures i)))
    ∙ (λ i. inserted c.self.inside.items (reverse (new_items g.T.Ord.cmp itself (c.as_slice.ensures i) (c.as_slice-2.ensures i))))
    ∙ set_taken g.met.T.Ord.total c.self.inside.items c.other.inside.items c.self.invariant c.other.invariant) c.insert_new.ensures.ok

pub invariant_of-self : goal.invariant_of-self
invariant_of-self g c = set_stays g.met.T.Ord.total c.insert_new.result c.self.inside.items c.other.inside.items c.insert_new.new.self c.self.invariant c.other.invariant (made g c) c.insert_new.ensures.err

pub returns-clause-ok : goal.returns-clause-ok
returns-clause-ok g c = on_ok_weaker c.insert_new.result (λ done. done ∙ (λ i. set_union g.T.Ord.cmp (c.self.view_is i) (c.other.view_is i))) (made g c)
