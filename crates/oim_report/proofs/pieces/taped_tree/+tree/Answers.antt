use Rattle.oim_report.proofs.Shared.{◌≡◌, ℕ, ◌-◌, Some, option_map, string_bytes, sym, ap, ◌∙◌, subst, arith, rules, IfOk-weaker, Json, Data, array, object, put, view, members_view, view-Array, view-Object, members_view-insert_entry, IsReadAs}
use Rattle.oim_report.proofs.TapedFacts.{begun, one_member, all_read}
use Rattle.oim_report.proofs.TapedTrees.{items_before, one_taken, all_taken}
use Rattle.oim_report.proofs.pieces.taped_tree.+tree.Goals as goal

pub items_of-loop-item-init : goal.items_of-loop-item-init
items_of-loop-item-init t c = λ vs here. record { left = vs; here = here; whole = λ ds e flat. (e ∙ ap (λ l. Some (items_before l ds)) (sym c.new-found.ensures.items), flat) }

pub items_of-loop-item-preserved : goal.items_of-loop-item-preserved
items_of-loop-item-preserved t c = λ vs here. one_taken (c.args.levels - 1) vs _ _ c.in-Some.item c.loop-item.found.items c.push.new.self.items c.in_ok-value.value c.in-Some.ensures.value (λ v begins. c.in_ok-value.ensures v begins) c.in_ok-push.ensures.items (c.loop-item.invariant vs here)

pub members_of-loop-name-init : goal.members_of-loop-name-init
members_of-loop-name-init t c = λ vs here. begun _ vs _ _ here (ap members_view (sym c.new-found.ensures.empty))

pub members_of-loop-name-preserved : goal.members_of-loop-name-preserved
members_of-loop-name-preserved t c = λ vs here.
    let name = c.in-Some.name.now in
    let value = c.in_ok-value.value in
    let copied : string_bytes c.in_ok-key.key ≡ name = search rules in
    let inserted = ap members_view c.in_ok-insert.ensures.entries ∙ members_view-insert_entry c.loop-name.found.entries c.in_ok-key.key value ∙ ap (λ k. put k (view value) (members_view c.loop-name.found.entries)) copied in
    one_member _ vs _ _ _ _ (name, c.in-Some.member) c.in-Some.ensures.value
    (λ v begins. let r = c.in_ok-value.ensures v begins in record { found = view value; reads = r.reads; flat = r.flat; puts = λ ms rises is. ap (put name (view value)) is ∙ sym inserted })
    (c.loop-name.invariant vs here)

pub items_of-returns : goal.items_of-returns
items_of-returns t c = λ vs here.
    let all = all_taken (c.args.levels - 1) vs _ c.next.new.self _ c.in_default.ensures.value (c.loop-item.invariant vs here) in
    let low = all.1 in
    record { reads = ap (option_map array) all.0; flat = omega (arith, low) }

pub members_of-returns : goal.members_of-returns
members_of-returns t c = λ vs here.
    let read = all_read _ vs _ c.next.new.self _ c.in_default.ensures.value (c.loop-name.invariant vs here) in
    let low = read.flat in
    record { reads = ap (option_map object) (read.reads ∙ ap (λ ms. Some ms) read.is); flat = omega (arith, low) }

read_by : (n : ℕ) (v w : Json) (d e : Data) → v ≡ w → e ≡ d → IsReadAs n w d → IsReadAs n v e
read_by n v w d e same seen r = subst (λ u. IsReadAs n u e) (sym same) (subst (IsReadAs n w) (sym seen) r)

pub tree_of-returns-in-Some : goal.tree_of-returns-in-Some
tree_of-returns-in-Some t c = λ v begins.
    let vs = c.in-Some.ensures v begins in
    read_by c.args.levels v _ _ _ vs.1 (view-Array c.in_ok-items_of.field-0) (c.in_ok-items_of.ensures vs.0 vs.2)

pub tree_of-returns-in_ok-members_of-in-Some-members : goal.tree_of-returns-in_ok-members_of-in-Some-members
tree_of-returns-in_ok-members_of-in-Some-members t c = λ v begins.
    let vs = c.in-Some-members.ensures v begins in
    let found = c.in_ok-members_of-in-Some-members in
    read_by c.args.levels v _ _ _ vs.1 (view-Object found.field-0) (found.ensures vs.0 vs.2)

pub tree_of-returns-in-None : goal.tree_of-returns-in-None
tree_of-returns-in-None t c = λ v begins.
    IfOk-weaker c.leaf_of.result (λ r. IsReadAs 0 v (view r)) (λ r. IsReadAs c.args.levels v (view r)) (λ r h. let low = h.flat in record { reads = h.reads; flat = omega (arith, low) }) (c.leaf_of.ensures v begins)
